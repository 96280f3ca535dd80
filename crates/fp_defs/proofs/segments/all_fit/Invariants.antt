use Rattle.std.proofs.Common.{◌≡◌, drop}
use Rattle.fp_defs.specs.Segments.{all_fit}
use Rattle.fp_defs.proofs.segments.all_fit.Given as goal

abbrev pub invariant-loop-place : goal.invariant-loop-place
invariant-loop-place l = all_fit l.room l.drafts l.place (drop l.place l.drafts) ≡ all_fit l.room l.drafts 0 l.drafts
