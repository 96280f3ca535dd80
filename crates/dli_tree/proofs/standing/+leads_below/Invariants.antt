use Rattle.std.proofs.Common.{length}
use Rattle.dli_tree.proofs.standing.+leads_below.Given as goal

-- each step of the path is behind
abbrev pub decreases-leads_below : goal.decreases-leads_below
decreases-leads_below l = length l.steps.now
