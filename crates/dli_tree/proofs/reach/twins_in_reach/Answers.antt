use Rattle.std.proofs.Common.{length, arith}
use Rattle.fp_model.specs.Order.{node_key, root_key}
use Rattle.dli_tree.specs.inside.Aims.{aim_of}
use Rattle.dli_tree.specs.inside.Reaches.{IsLeft}
use Rattle.dli_tree.proofs.Reaching.{before_below, before_one, behind_one, none_after}
use Rattle.dli_tree.proofs.reach.twins_in_reach.Goals as goal

pub returns-then-from-twins-clause-leaves : goal.returns-then-from-twins-clause-leaves
returns-then-from-twins-clause-leaves c up =
    let p = c.twins_below-from.ensures.place up in (
      before_one (aim_of c.args.aim) c.args.segment (node_key c.args.segments.now c.args.segment) c.args.twins.now
          c.in-One.key.now c.twins_below-from.result p c.in-One.ensures,
      behind_one (aim_of c.args.aim) c.args.segment (node_key c.args.segments.now c.args.segment) c.args.twins.now
          c.in-One.key.now c.twins_below-from.result up p c.in-One.ensures,
    )

pub returns-else-from-twins-clause-leaves : goal.returns-else-from-twins-clause-leaves
returns-else-from-twins-clause-leaves c up =
    let p = c.twins_below-from.ensures.place up in (
      before_one (aim_of c.args.aim) c.args.segment (node_key c.args.segments.now c.args.segment) c.args.twins.now
          c.in-One.key.now c.twins_below-from.result p c.in-One.ensures,
      none_after (λ x. IsLeft (aim_of c.args.aim) c.args.segment ((node_key c.args.segments.now c.args.segment) x))
          c.args.twins.now c.twins_below-from.result c.if-from-twins.false,
    )

pub returns-in-From-clause-leaves : goal.returns-in-From-clause-leaves
returns-in-From-clause-leaves c up =
    let p = c.twins_below.ensures.place up in (
      before_below (aim_of c.args.aim) c.args.segment (node_key c.args.segments.now c.args.segment) c.args.twins.now
          c.in-From.key.now c.twins_below.result p c.in-From.ensures,
      none_after (λ x. IsLeft (aim_of c.args.aim) c.args.segment ((node_key c.args.segments.now c.args.segment) x))
          c.args.twins.now (length c.args.twins.now) (omega arith),
    )
