use Rattle.std.proofs.Common.{subst}
use Rattle.fp_core.specs.inside.Acting.{HasActed}
use Rattle.fp_core.specs.declared.answering.Acted.{Acted}
use Rattle.fp_core.proofs.engine.Engine.try_act.Goals as goal

pub lock-requires-clause-needs : goal.lock-requires-clause-needs
lock-requires-clause-needs g c =
    let u = c.requires.under in (
      u.0,
      (
        u.1.0,
        subst (λ (a : Acted). HasActed c.go_on.new.self u.0 c.args.region u.1.0 a) c.in-Needs.is
            (c.in_ok-go_on.ensures.acted u.0 u.1.0 u.1.1),
      ),
    )

pub commit-requires-clause-holds : goal.commit-requires-clause-holds
commit-requires-clause-holds g c =
    let u = c.requires.under in (
      u.0,
      (
        u.1.0,
        subst (λ (a : Acted). HasActed c.go_on.new.self u.0 c.args.region u.1.0 a) c.in-Replies.is
            (c.in_ok-go_on.ensures.acted u.0 u.1.0 u.1.1),
      ),
    )

pub roll-requires-clause-at_end : goal.roll-requires-clause-at_end
roll-requires-clause-at_end g c =
    let u = c.requires.under in (
      u.0,
      (
        u.1.0,
        subst (λ (a : Acted). HasActed c.go_on.new.self u.0 c.args.region u.1.0 a) c.in-Rolls.is
            (c.in_ok-go_on.ensures.acted u.0 u.1.0 u.1.1),
      ),
    )

pub returns-in-Needs-clause-err : goal.returns-in-Needs-clause-err
returns-in-Needs-clause-err g c m t w =
    c.lock.ensures.err m t (subst (λ (a : Acted). HasActed c.go_on.new.self m c.args.region t a) c.in-Needs.is
    (c.in_ok-go_on.ensures.acted m t w))

pub returns-in-Answered-clause-turned : goal.returns-in-Answered-clause-turned
returns-in-Answered-clause-turned g c m t w =
    subst (λ (a : Acted). HasActed c.go_on.new.self m c.args.region t a) c.in-Answered.is
    (c.in_ok-go_on.ensures.acted m t w)
