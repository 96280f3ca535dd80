use Rattle.std.proofs.Common.{length, arith}
use Rattle.fp_model.specs.Order.{node_key, root_key}
use Rattle.dli_tree.specs.inside.Aims.{aim_of}
use Rattle.dli_tree.specs.inside.Reaches.{IsLeft}
use Rattle.dli_tree.proofs.Reaching.{before_below, before_one, behind_one, none_after}
use Rattle.dli_tree.proofs.reach.roots_in_reach.Goals as goal

pub returns-then-from-roots-clause-leaves : goal.returns-then-from-roots-clause-leaves
returns-then-from-roots-clause-leaves c up =
    let p = c.roots_below-from.ensures.place up in (
      before_one (aim_of c.args.aim) 0 (root_key c.args.segments.now) c.args.roots.now c.in-One.key.now
          c.roots_below-from.result p c.in-One.ensures,
      behind_one (aim_of c.args.aim) 0 (root_key c.args.segments.now) c.args.roots.now c.in-One.key.now
          c.roots_below-from.result up p c.in-One.ensures,
    )

pub returns-else-from-roots-clause-leaves : goal.returns-else-from-roots-clause-leaves
returns-else-from-roots-clause-leaves c up =
    let p = c.roots_below-from.ensures.place up in (
      before_one (aim_of c.args.aim) 0 (root_key c.args.segments.now) c.args.roots.now c.in-One.key.now
          c.roots_below-from.result p c.in-One.ensures,
      none_after (λ x. IsLeft (aim_of c.args.aim) 0 ((root_key c.args.segments.now) x)) c.args.roots.now
          c.roots_below-from.result c.if-from-roots.false,
    )

pub returns-in-From-clause-leaves : goal.returns-in-From-clause-leaves
returns-in-From-clause-leaves c up =
    let p = c.roots_below.ensures.place up in (
      before_below (aim_of c.args.aim) 0 (root_key c.args.segments.now) c.args.roots.now c.in-From.key.now
          c.roots_below.result p c.in-From.ensures,
      none_after (λ x. IsLeft (aim_of c.args.aim) 0 ((root_key c.args.segments.now) x)) c.args.roots.now
          (length c.args.roots.now) (omega arith),
    )
