use Rattle.std.proofs.Common.{◌∙◌}
use Rattle.fp_model.specs.Order.{numbered}
use Rattle.dli_tree.specs.inside.Aims.{aim_of}
use Rattle.dli_tree.proofs.Roots.{below_one, none_below}
use Rattle.dli_tree.proofs.first.wants_dependent.Goals as goal

pub returns-in-Some : goal.returns-in-Some
returns-in-Some c = c.is_met.ensures ∙ below_one (aim_of c.args.aim) (numbered c.args.segment c.args.serial)
    c.enter.result c.in-Some.below c.enter.ensures c.in-Some.is

pub returns-in-None : goal.returns-in-None
returns-in-None c = none_below (aim_of c.args.aim) (numbered c.args.segment c.args.serial) c.enter.result
    c.enter.ensures c.in-None.is
