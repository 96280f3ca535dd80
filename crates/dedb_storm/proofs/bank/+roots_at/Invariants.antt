use Rattle.std.proofs.Common.{length}
use Rattle.dedb_storm.proofs.bank.+roots_at.Given as goal

-- each change is behind
abbrev pub decreases-roots_at : goal.decreases-roots_at
decreases-roots_at l = length l.kept.now
