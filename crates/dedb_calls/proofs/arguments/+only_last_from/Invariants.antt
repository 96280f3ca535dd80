use Rattle.std.proofs.Common.{length}
use Rattle.dedb_calls.proofs.arguments.+only_last_from.Given as goal

-- each argument is behind
abbrev pub decreases-only_last_from : goal.decreases-only_last_from
decreases-only_last_from l = length l.rest.now
