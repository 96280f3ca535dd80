use Rattle.std.proofs.Common.{◌≡◌, map}
use Rattle.fp_model.specs.declared.calls.Resource.TheVariants.{Segment}
use Rattle.sync_point.proofs.naming.resources.Given as goal

-- those so far
abbrev pub invariant-loop-name : goal.invariant-loop-name
invariant-loop-name l = l.resources ≡ map (λ name. Segment name.msdb name.key.items) l.yielded
