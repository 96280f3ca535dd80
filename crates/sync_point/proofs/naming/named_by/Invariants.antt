use Rattle.std.proofs.Common.{◌≡◌, map, drop}
use Rattle.fp_model.specs.Settle.{resources}
use Rattle.fp_model.specs.declared.calls.Resource.TheVariants.{Segment}
use Rattle.sync_point.proofs.naming.named_by.Given as goal

-- those of the calls from here on
abbrev pub invariant-loop-at : goal.invariant-loop-at
invariant-loop-at l = map (λ name. Segment name.msdb name.key.items) l.names.keys ≡ resources (drop l.at l.calls)
