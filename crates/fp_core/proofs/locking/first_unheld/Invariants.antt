use Rattle.std.proofs.Common.{◌≡◌, drop}
use Rattle.ci_locks.specs.Table.{standing}
use Rattle.fp_core.proofs.Lacks.{first_unheld}
use Rattle.fp_core.proofs.locking.first_unheld.Given as goal

-- those so far are held
abbrev pub invariant-loop-resource : goal.invariant-loop-resource
invariant-loop-resource l =
    first_unheld ((standing l.locks).holds l.region) l.named
    ≡ first_unheld ((standing l.locks).holds l.region) (drop l.resource-index l.named)
