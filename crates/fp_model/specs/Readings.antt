-- A reading is a value, or the first fault of some kind; or a value that is there or isn't.
use Rattle.std.specs.Prelude.{◌≡◌, ◌≢◌, Option, Some, None, Result, Ok, Err}

-- the next step, unless this one has a fault
infixl 10 ◌>>=◌
abbrev pub ◌>>=◌ : {A B Fault : Type 0} → Result A Fault → (A → Result B Fault) → Result B Fault
(Ok x) >>= step = step x
(Err fault) >>= step = Err fault

-- What a function returned, seen by a view, is the reading. That memory ran out, which this fault says, tells nothing of
-- the reading.
abbrev pub GivesBut : {X Y Fault : Type 0} → Fault → (X → Y) → Result X Fault → Result Y Fault → Type 0
GivesBut memory view (Ok x) reading = reading ≡ Ok (view x)
GivesBut memory view (Err fault) reading = fault ≢ memory → reading ≡ Err fault

-- What a function returned, seen by a view, is the value that is there; any fault says that none is, but that memory ran
-- out tells nothing of it.
abbrev pub FindsBut : {X Y Fault : Type 0} → Fault → (X → Y) → Result X Fault → Option Y → Type 0
FindsBut memory view (Ok x) value = value ≡ Some (view x)
FindsBut memory view (Err fault) value = fault ≢ memory → value ≡ None
