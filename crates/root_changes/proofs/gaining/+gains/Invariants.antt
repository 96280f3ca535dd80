use Rattle.std.proofs.Common.{◌+◌, ◌*◌}
use Rattle.root_changes.proofs.gaining.+gains.Given as goal

-- the depth of what is compared; at one depth a segment's rows come before a row
abbrev pub decreases-gain_within : goal.decreases-gain_within
decreases-gain_within l = 4 * goal.size-gain_within l + 3

abbrev pub decreases-gain_of_row : goal.decreases-gain_of_row
decreases-gain_of_row l = 4 * goal.size-gain_of_row l + 1
