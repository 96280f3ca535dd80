use Rattle.std.proofs.Common.{◌≡◌, ◌<◌, ◌^◌, ℕ, List, [], ◌∷◌, Option, Some, arith, subst}
use Rattle.std.specs.List.{AllByRecursion}
use Rattle.std.specs.Prelude.{IfSome}
use Rattle.checkpoint_format.specs.Given.{loaded_as}
use Rattle.checkpoint_format.specs.declared.checkpoint.Loaded.{Loaded}
use Rattle.fp_model.specs.CheckpointText.{IsCheckpoint}
use Rattle.fp_model.specs.WellFormed.{IsMsdbDef}
use Rattle.fp_model.specs.declared.definitions.MsdbDef.{MsdbDef}
use Rattle.msdb_checkpoint.specs.Newest.{IsNewest, IsWhole}
use Rattle.fp_vectors.proofs.checkpoints.answer.Goals as goal

-- segments are shorter than their length field allows
short : (defs : List MsdbDef) → AllByRecursion IsMsdbDef defs → AllByRecursion (λ def. def.length < 2 ^ 16) defs
short [] each = tt
short (def ∷ defs) each = (omega (arith, each.0.short), short defs each.1)

-- one that was found keeps the rules
keeps_rules : (defs : List MsdbDef) (contents : ℕ → List ℕ) (found : Option Loaded) (loaded : Loaded)
    → found ≡ Some loaded
    → IfSome found (λ l. (set : ℕ) × IsNewest contents set × IsWhole defs (contents set) l)
    → IsCheckpoint loaded.format defs (loaded_as loaded)
keeps_rules defs contents found loaded is whole =
    (subst (λ f. IfSome f (λ l. (set : ℕ) × IsNewest contents set × IsWhole defs (contents set) l)) is whole).2.1

pub again-requires-clause-whole : goal.again-requires-clause-whole
again-requires-clause-whole c =
    let defs = c.in_ok-defs.defs.msdbs in
    keeps_rules defs _ c.in-Ok-Some.field-0 c.in-Ok-Some.loaded c.in-Ok-Some.field-0-is
    (c.in-Ok-Some.ensures.whole tt (short defs c.in_ok-defs.ensures.each_msdb))
