use Rattle.std.proofs.Common.{◌≡◌, drop}
use Rattle.fp_model.specs.WellFormed.{has_sequential}
use Rattle.fp_defs.proofs.segments.has_sequential.Given as goal

abbrev pub invariant-loop-draft : goal.invariant-loop-draft
invariant-loop-draft l = has_sequential (drop l.draft-index l.drafts) ≡ has_sequential l.drafts
