use Rattle.std.proofs.Common.{arith, subst}
use Rattle.fp_site.proofs.Frames.{only_joined}
use Rattle.fp_site.proofs.Runs.{joined, weaker}
use Rattle.gated_write.proofs.Bodies.{on_ok}
use Rattle.msdb_checkpoint.specs.Steps.{IsAt}
use Rattle.msdb_checkpoint.specs.inside.Steps.{IsNext}
use Rattle.msdb_checkpoint.proofs.StageLemmas.{and_then, may_go}
use Rattle.msdb_checkpoint.proofs.stages.+run.Goals as goal

pub returns-in-Some-clause-only : goal.returns-in-Some-clause-only
returns-in-Some-clause-only g n c t =
    let t1 = c.advance.ensures.site.still_told t in
    only_joined c.args.set _ _ _ (g.met.S.Site.lawful c.args.site.now t) (g.met.S.Site.lawful c.advance.new.site t1)
    (c.advance.ensures.only t) (c.run.ensures.only t1)

pub returns-in-Some-clause-crash : goal.returns-in-Some-clause-crash
returns-in-Some-clause-crash g n c t at =
    let t1 = c.advance.ensures.site.still_told t in
    let next = c.in_ok-next.ensures.next t (may_go _ _ _ _ at) in
    let at1 : IsAt c.args.body.now c.args.set (g.S.Site.disk c.advance.new.site) c.in-Some.next =
    subst (IsNext c.args.body.now c.args.set (g.S.Site.disk c.advance.new.site)) c.in-Some.is next in
    joined _ _ _ _ (c.advance.ensures.crash t at)
    (weaker _ _ _ _ (λ s p. and_then _ (g.S.Site.disk c.advance.new.site) c.args.set c.args.body.now
    (s.images c.args.set) (λ i settles. c.advance.ensures.settles i t at settles) p) (c.run.ensures.crash t1 at1))

pub returns-in-Some-clause-settles : goal.returns-in-Some-clause-settles
returns-in-Some-clause-settles g n c image t at settles =
    let t1 = c.advance.ensures.site.still_told t in
    let next = c.in_ok-next.ensures.next t (may_go _ _ _ _ at) in
    let at1 : IsAt c.args.body.now c.args.set (g.S.Site.disk c.advance.new.site) c.in-Some.next =
    subst (IsNext c.args.body.now c.args.set (g.S.Site.disk c.advance.new.site)) c.in-Some.is next in
    and_then _ (g.S.Site.disk c.advance.new.site) c.args.set c.args.body.now image
    (λ i s. c.advance.ensures.settles i t at s) (c.run.ensures.settles image t1 at1 settles)

pub returns-in-Some-clause-sure : goal.returns-in-Some-clause-sure
returns-in-Some-clause-sure g n c t goes =
    let t1 = c.advance.ensures.site.still_told t in
    let next = c.in_ok-next.ensures.next t goes in
    let at1 : IsAt c.args.body.now c.args.set (g.S.Site.disk c.advance.new.site) c.in-Some.next =
    subst (IsNext c.args.body.now c.args.set (g.S.Site.disk c.advance.new.site)) c.in-Some.is next in
    c.run.ensures.sure t1 (may_go c.args.body.now c.args.set (g.S.Site.disk c.advance.new.site) c.in-Some.next at1)

pub returns-in-Some-clause-no_longer : goal.returns-in-Some-clause-no_longer
returns-in-Some-clause-no_longer g n c t =
    let first = c.in_ok-next.ensures.no_longer t in
    let t1 = c.advance.ensures.site.still_told t in
    on_ok c.run.result (c.run.ensures.no_longer t1) (λ further. omega (arith, first, further))
