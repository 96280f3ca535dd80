use Rattle.std.proofs.Common.{◌≡◌, drop}
use Rattle.fp_model.specs.WellFormed.{has_sequential}
use Rattle.anchor_elements.proofs.element.has_sequential.Given as goal

abbrev pub invariant-loop-def : goal.invariant-loop-def
invariant-loop-def l = has_sequential (drop l.def-index l.segments) ≡ has_sequential l.segments
