use Rattle.std.proofs.Common.{◌≡◌, map}
use Rattle.fp_model.specs.declared.log.Item.TheVariants.{Segment}
use Rattle.msdb_store.proofs.staging.Staging.into_items.Given as goal

-- the items of those so far
abbrev pub invariant-loop-key : goal.invariant-loop-key
invariant-loop-key l = l.items ≡ map (λ e. Segment e.0.msdb e.0.key.items e.1) l.yielded
