use Rattle.std.proofs.Common.{length}
use Rattle.dedb_calls.proofs.arguments.+descend_from.Given as goal

-- each argument is behind
abbrev pub decreases-descend_from : goal.decreases-descend_from
decreases-descend_from l = length l.rest.now
