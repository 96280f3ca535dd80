use Rattle.std.proofs.Common.{◌≡◌, ◌-◌, ◌+◌, length}
use Rattle.fp_model.specs.declared.calls.Resource.{Resource}
use Rattle.ci_locks.specs.Holdings.{holders_in}
use Rattle.ci_locks.proofs.holding.Holdings.make_table.Given as goal

abbrev pub invariant-loop-alloc : goal.invariant-loop-alloc
invariant-loop-alloc l = (resource : Resource) → holders_in l.self resource ≡ holders_in l.fn.self resource

abbrev pub decreases-loop-alloc : goal.decreases-loop-alloc
decreases-loop-alloc l = l.msdb + 1 - length l.self.segments.items
