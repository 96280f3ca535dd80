use Rattle.std.proofs.Common.{length}
use Rattle.dedb_storm.proofs.fitting.+last_type.Given as goal

-- each argument is behind
abbrev pub decreases-last_type : goal.decreases-last_type
decreases-last_type l = length l.ssas.now
