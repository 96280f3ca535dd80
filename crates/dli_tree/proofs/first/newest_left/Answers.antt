use Rattle.std.proofs.Common.{ap, ◌∙◌, sym, get_or, drop, length, arith}
use Rattle.std.specs.Prelude.{option_map}
use Rattle.std.specs.Option.{option_copied}
use Rattle.fp_model.specs.Order.{numbered}
use Rattle.dli_tree.specs.inside.Aims.{aim_of}
use Rattle.dli_tree.specs.Paths.{steps_of}
use Rattle.dli_tree.proofs.Reaching.{opened}
use Rattle.dli_tree.proofs.Roots.{not_inside}
use Rattle.dli_tree.proofs.first.newest_left.Goals as goal
use Rattle.plain_laws.proofs.Lists.{some_first}

pub returns-then-not-is_empty-clause-left : goal.returns-then-not-is_empty-clause-left
returns-then-not-is_empty-clause-left c newest i d lt =
    not_inside (aim_of c.args.aim) c.in-Some.within.now (numbered c.args.segment (get_or c.args.seqs.now i d).serial)
    (ap (λ w. option_map steps_of (option_copied w)) c.in-Some.is) (sym c.is_empty.ensures ∙ c.if-not-is_empty.true)

pub returns-then-not-is_empty-2-clause-left : goal.returns-then-not-is_empty-2-clause-left
returns-then-not-is_empty-2-clause-left c newest i d lt =
    c.not_behind.ensures.left newest (aim_of c.args.aim) (steps_of (drop 1 c.in-Some-behind.behind.now))
    (opened (aim_of c.args.aim).behind c.in-Some-behind.behind.now c.index-behind-0.result
    (ap (λ w. option_map steps_of (option_copied w)) c.in-Some-behind.is)
    (some_first c.in-Some-behind.behind.now (sym c.is_empty-in-Some-behind.ensures ∙ c.if-not-is_empty-2.true))
    c.index-behind-0.is) i d lt
