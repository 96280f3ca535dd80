-- What bodies and proofs need of Giving, beside what contracts say.
use Rattle.std.specs.Prelude.{ℕ, List, ⊤, Option, Result}
use Rattle.txn_values.specs.declared.stop.Stop.{Stop}
use Rattle.txn_values.specs.declared.stop.Stop.TheVariants.{Memory}
use Rattle.fp_model.specs.Readings.{FindsBut}

-- what stands now in a place that a value was put into
abbrev pub PutsIn : Result ⊤ Stop → List ℕ → Option (List ℕ) → Type 0
PutsIn result now value = FindsBut Memory (λ done. now) result value
