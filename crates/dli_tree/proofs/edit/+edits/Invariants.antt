use Rattle.std.proofs.Common.{◌+◌, ◌*◌, length}
use Rattle.dli_tree.proofs.edit.+edits.Given as goal

-- each step of the path is behind
abbrev pub decreases-edit_rows : goal.decreases-edit_rows
decreases-edit_rows l = 2 * length l.steps.now

abbrev pub decreases-edit_row : goal.decreases-edit_row
decreases-edit_row l = 2 * length l.rest.now + 1
