use Rattle.std.proofs.Common.{◌∙◌, ap}
use Rattle.ci_pool.specs.Cells.{cell_at}
use Rattle.ci_pool.specs.inside.Changes.{all_unstaged}
use Rattle.ci_pool.proofs.Lookups.{at_unstaged}
use Rattle.ci_pool.proofs.tree.Cells.drop_staged.Goals as goal

pub returns : goal.returns
returns c s k = ap (cell_at s k) (c.unstaged.ensures ∙ ap all_unstaged c.replace-cells.ensures.value)
    ∙ at_unstaged s k c.args.self.now c.ascend.ensures
