use Rattle.std.proofs.Common.{length}
use Rattle.dedb_storm.proofs.fitting.+fit.Given as goal

-- each argument is behind
abbrev pub decreases-fit : goal.decreases-fit
decreases-fit l = length l.ssas.now
