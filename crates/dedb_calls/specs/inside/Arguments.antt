-- The steps that segment search arguments name.
use Rattle.std.specs.Prelude.{ℕ, List, unwrap_or}
use Rattle.fp_model.specs.declared.calls.Ssa.{Ssa}
use Rattle.fp_model.specs.declared.definitions.SegDef.{SegDef}
use Rattle.fp_model.specs.Order.{Step, direct, key_in}

-- with its key, or the key that the new segment begins with
abbrev pub named_step : List SegDef → List ℕ → Ssa → Step
named_step types bytes a = direct a.segment (unwrap_or a.key (key_in types a.segment bytes))
