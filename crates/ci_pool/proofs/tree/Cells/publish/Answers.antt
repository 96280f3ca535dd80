use Rattle.std.proofs.Common.{◌∙◌, ap}
use Rattle.ci_pool.specs.Cells.{cell_at}
use Rattle.ci_pool.specs.inside.Changes.{all_published}
use Rattle.ci_pool.proofs.Lookups.{at_published}
use Rattle.ci_pool.proofs.tree.Cells.publish.Goals as goal

pub returns : goal.returns
returns c s k = ap (cell_at s k) (c.published.ensures ∙ ap (all_published c.args.place) c.replace-cells.ensures.value)
    ∙ at_published c.args.place s k c.args.self.now
