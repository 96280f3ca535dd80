use Rattle.std.proofs.Common.{List, sym, subst}
use Rattle.root_anchor.specs.inside.Rebuilding.{Shares}
use Rattle.root_anchor.specs.declared.plan.Planned.{Planned}
use Rattle.root_anchor.proofs.Sharing.{shares-more}
use Rattle.root_anchor.proofs.plan.plan_itself.Goals as goal

pub returns-in-Ok-clause-shares : goal.returns-in-Ok-clause-shares
returns-in-Ok-clause-shares c = λ all s.
    let P : List Planned → Type 0 = λ xs. Shares all xs c.take_out-at.new.standing.items in
    subst P (sym c.in-Ok.ensures.items) (shares-more _ _ _ _ _ _ c.take_out-at.ensures.taken c.take_out-at.ensures.none
    s)
