use Rattle.std.proofs.Common.{◌∙◌, ap, sym, subst}
use Rattle.fp_site.specs.Disk.{Settles}
use Rattle.msdb_checkpoint.specs.Steps.{IsAt, Turn, other_set}
use Rattle.msdb_checkpoint.specs.inside.Steps.{IsNext}
use Rattle.msdb_checkpoint.proofs.StageLemmas.{at_slice, goes_at, goes_slice, moved, moved_image, same_body, stands_at}
use Rattle.msdb_checkpoint.proofs.checkpoints.Checkpoints.step.Goals as goal

pub returns-in_err-stage-clause-crash : goal.returns-in_err-stage-clause-crash
returns-in_err-stage-clause-crash g c u t was stands =
    let view = c.self.view_is in
    let is = sym c.take.ensures.value ∙ c.in-Some.is in
    let at = stands_at _ _ _ _ (g.S.Site.disk c.args.site.now) c.in-Some.under_way view is stands in
    let same = c.as_slice.ensures ∙ same_body _ _ _ _ u c.in-Some.under_way view is was in
    let of_set = ap (λ (t : Turn). t.set) view in
    moved _ _ _ _ _ _ of_set same
    (c.advance.ensures.crash t
    (at_slice c.in-Some.under_way _ (other_set c.self.inside.set) (g.S.Site.disk c.args.site.now) c.as_slice.ensures
    at))

pub returns-in_err-stage-clause-settles : goal.returns-in_err-stage-clause-settles
returns-in_err-stage-clause-settles g c u image t was stands settles =
    let view = c.self.view_is in
    let is = sym c.take.ensures.value ∙ c.in-Some.is in
    let at = stands_at _ _ _ _ (g.S.Site.disk c.args.site.now) c.in-Some.under_way view is stands in
    let same = c.as_slice.ensures ∙ same_body _ _ _ _ u c.in-Some.under_way view is was in
    let of_set = ap (λ (t : Turn). t.set) view in
    moved_image _ _ _ _ _ image of_set same (c.advance.ensures.settles image t
    (at_slice c.in-Some.under_way _ (other_set c.self.inside.set) (g.S.Site.disk c.args.site.now) c.as_slice.ensures at)
    (subst (λ n. Settles (g.S.Site.disk c.advance.new.site) (other_set n) image) (sym of_set) settles))

pub returns-in-Some-2-clause-crash : goal.returns-in-Some-2-clause-crash
returns-in-Some-2-clause-crash g c u t was stands =
    let view = c.self.view_is in
    let is = sym c.take.ensures.value ∙ c.in-Some.is in
    let at = stands_at _ _ _ _ (g.S.Site.disk c.args.site.now) c.in-Some.under_way view is stands in
    let same = c.as_slice.ensures ∙ same_body _ _ _ _ u c.in-Some.under_way view is was in
    let of_set = ap (λ (t : Turn). t.set) view in
    moved _ _ _ _ _ _ of_set same
    (c.advance.ensures.crash t
    (at_slice c.in-Some.under_way _ (other_set c.self.inside.set) (g.S.Site.disk c.args.site.now) c.as_slice.ensures
    at))

pub returns-in-Some-2-clause-settles : goal.returns-in-Some-2-clause-settles
returns-in-Some-2-clause-settles g c u image t was stands settles =
    let view = c.self.view_is in
    let is = sym c.take.ensures.value ∙ c.in-Some.is in
    let at = stands_at _ _ _ _ (g.S.Site.disk c.args.site.now) c.in-Some.under_way view is stands in
    let same = c.as_slice.ensures ∙ same_body _ _ _ _ u c.in-Some.under_way view is was in
    let of_set = ap (λ (t : Turn). t.set) view in
    moved_image _ _ _ _ _ image of_set same (c.advance.ensures.settles image t
    (at_slice c.in-Some.under_way _ (other_set c.self.inside.set) (g.S.Site.disk c.args.site.now) c.as_slice.ensures at)
    (subst (λ n. Settles (g.S.Site.disk c.advance.new.site) (other_set n) image) (sym of_set) settles))

pub returns-in-None-clause-crash : goal.returns-in-None-clause-crash
returns-in-None-clause-crash g c u t was stands =
    let view = c.self.view_is in
    let is = sym c.take.ensures.value ∙ c.in-Some.is in
    let at = stands_at _ _ _ _ (g.S.Site.disk c.args.site.now) c.in-Some.under_way view is stands in
    let same = c.as_slice.ensures ∙ same_body _ _ _ _ u c.in-Some.under_way view is was in
    let of_set = ap (λ (t : Turn). t.set) view in
    moved _ _ _ _ _ _ of_set same
    (c.advance.ensures.crash t
    (at_slice c.in-Some.under_way _ (other_set c.self.inside.set) (g.S.Site.disk c.args.site.now) c.as_slice.ensures
    at))

pub returns-in-None-clause-settles : goal.returns-in-None-clause-settles
returns-in-None-clause-settles g c u image t was stands settles =
    let view = c.self.view_is in
    let is = sym c.take.ensures.value ∙ c.in-Some.is in
    let at = stands_at _ _ _ _ (g.S.Site.disk c.args.site.now) c.in-Some.under_way view is stands in
    let same = c.as_slice.ensures ∙ same_body _ _ _ _ u c.in-Some.under_way view is was in
    let of_set = ap (λ (t : Turn). t.set) view in
    moved_image _ _ _ _ _ image of_set same (c.advance.ensures.settles image t
    (at_slice c.in-Some.under_way _ (other_set c.self.inside.set) (g.S.Site.disk c.args.site.now) c.as_slice.ensures at)
    (subst (λ n. Settles (g.S.Site.disk c.advance.new.site) (other_set n) image) (sym of_set) settles))

pub returns-in-Some-2-clause-goes : goal.returns-in-Some-2-clause-goes
returns-in-Some-2-clause-goes g c t goes still =
    let view = c.self.view_is in
    let is = sym c.take.ensures.value ∙ c.in-Some.is in
    let at = goes_at _ _ _ _ (g.S.Site.disk c.args.site.now) c.in-Some.under_way view is goes in
    let next = c.in_ok-stage.ensures.next t
    (goes_slice c.in-Some.under_way _ (other_set c.self.inside.set) (g.S.Site.disk c.args.site.now) c.as_slice.ensures
    at) in
    subst (λ b. IsAt b (other_set c.self.inside.set) (g.S.Site.disk c.advance.new.site) c.in-Some-2.stage)
    c.as_slice.ensures
    (subst (IsNext c.as_slice.result.now (other_set c.self.inside.set) (g.S.Site.disk c.advance.new.site))
    c.in-Some-2.is
    next)
