-- A reading is a value, or the first fault: steps one after another, of which the first that has a fault ends it.
use Rattle.std.specs.Prelude.{List, [], ◌∷◌, ◌++◌, Option, Some, None, Result, Ok, Err}
use Rattle.def_tables.specs.declared.fault.DefsFault.{DefsFault}
use Rattle.def_tables.specs.declared.fault.DefsFault.TheVariants.{Memory}
use Rattle.fp_model.specs.Readings.{◌>>=◌, GivesBut}

-- the value, or this fault where there is none
abbrev pub or_fault : {A : Type 0} → DefsFault → Option A → Result A DefsFault
or_fault fault None = Err fault
or_fault fault (Some x) = Ok x

-- one after another, each read beside those before it
abbrev pub in_turn : {A B : Type 0} → (List A → B → Result A DefsFault) → List A → List B → Result (List A) DefsFault
in_turn read before [] = Ok before
in_turn read before (x ∷ xs) = do
  y ← read before x
  in_turn read (before ++ y ∷ []) xs

-- What a function returned, seen by a view, is the reading, unless memory ran out.
abbrev pub Gives : {X Y : Type 0} → (X → Y) → Result X DefsFault → Result Y DefsFault → Type 0
Gives view result reading = GivesBut Memory view result reading
