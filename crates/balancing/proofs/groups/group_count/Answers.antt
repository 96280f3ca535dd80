use Rattle.std.proofs.Common.{◌∙◌, ◌≤◌, ap, arith, fold, max, subst, sym}
use Rattle.std.proofs.lemmas.List.{take_all}
use Rattle.balancing.proofs.GroupLemmas.{groups_bounded}
use Rattle.balancing.proofs.groups.group_count.Goals as goal

pub returns-clause-bounds : goal.returns-clause-bounds
returns-clause-bounds c some are =
    let all = take_all c.loop-group.group-index c.args.regions.now (omega arith) in
    subst (λ n. (1 ≤ n) × (n ≤ 16)) (sym (c.loop-group.invariant ∙ ap (fold max 0) all))
    (groups_bounded c.args.regions.now some are.0)
