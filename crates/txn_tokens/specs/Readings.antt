-- What reading a part of a text gives.
use Rattle.std.specs.Prelude.{ℕ, zero, suc, List, [], ◌∷◌, length, Result, Ok, Err}
use Rattle.txn_tokens.specs.declared.fault.LineFault.{LineFault}
use Rattle.txn_tokens.specs.declared.fault.LineFault.TheVariants.{Syntax, Memory}
use Rattle.fp_model.specs.Readings.{◌>>=◌, GivesBut}

-- a part that was read, or why the line is no statement; no reading fails for want of memory, which only the code knows
abbrev pub Reading : Type 0 → Type 0
Reading A = Result A LineFault

-- at most so many parts, one after another, up to the end
abbrev pub many : {X A : Type 0} → (List X → Reading (A × List X)) → ℕ → List X → Reading (List A)
many part n [] = Ok []
many part zero (x ∷ xs) = Err Syntax
many part (suc n) (x ∷ xs) = do
  first ← part (x ∷ xs)
  others ← many part n first.1
  Ok (first.0 ∷ others)

-- parts, one after another, up to the end; each part takes something
unfoldable pub all_by : {X A : Type 0} → (List X → Reading (A × List X)) → List X → Reading (List A)
all_by part xs = many part (length xs) xs

-- nothing is left
abbrev pub ended : {X A : Type 0} → A → List X → Reading A
ended x [] = Ok x
ended x (y ∷ ys) = Err Syntax

-- What a function returned, seen by a view, is the reading, unless memory ran out.
abbrev pub Gives : {X Y : Type 0} → (X → Y) → Result X LineFault → Reading Y → Type 0
Gives view result reading = GivesBut Memory view result reading
