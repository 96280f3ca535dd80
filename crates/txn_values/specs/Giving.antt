-- What a function gives that works out a value.
use Rattle.std.specs.Prelude.{Option, Result}
use Rattle.txn_values.specs.declared.stop.Stop.{Stop}
use Rattle.txn_values.specs.declared.stop.Stop.TheVariants.{Memory}
use Rattle.fp_model.specs.Readings.{FindsBut}

-- A function's result, seen by a view, is the value that there is, unless memory ran out.
abbrev pub GivesAs : {X Y : Type 0} → (X → Y) → Result X Stop → Option Y → Type 0
GivesAs view result value = FindsBut Memory view result value

abbrev pub Gives : {X : Type 0} → Result X Stop → Option X → Type 0
Gives result value = FindsBut Memory (λ x. x) result value
