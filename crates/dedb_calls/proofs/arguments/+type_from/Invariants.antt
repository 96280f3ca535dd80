use Rattle.std.proofs.Common.{length}
use Rattle.dedb_calls.proofs.arguments.+type_from.Given as goal

-- each argument is behind
abbrev pub decreases-type_from : goal.decreases-type_from
decreases-type_from l = length l.rest.now
