use Rattle.std.proofs.Common.{◌≡◌, ◌∙◌, Option, None, ℕ, ap, sym, subst}
use Rattle.fp_site.specs.Disk.{Settles}
use Rattle.msdb_checkpoint.specs.Steps.{IsSure, Turn, other_set}
use Rattle.msdb_checkpoint.specs.declared.stages.UnderWay.{UnderWay}
use Rattle.msdb_checkpoint.proofs.StageLemmas.{at_slice, goes_at, goes_slice, moved, moved_image, same_body, stands_at}
use Rattle.msdb_checkpoint.proofs.checkpoints.Checkpoints.finish.Goals as goal
use Rattle.std.proofs.lemmas.Option.{same_Some}

pub returns-in_err-run-clause-crash : goal.returns-in_err-run-clause-crash
returns-in_err-run-clause-crash g c u t was stands =
    let view = c.self.view_is in
    let is = sym c.take.ensures.value ∙ c.in-Some.is in
    let at = stands_at _ _ _ _ (g.S.Site.disk c.args.site.now) c.in-Some.under_way view is stands in
    let of_set = ap (λ (t : Turn). t.set) view in
    let at1 = at_slice c.in-Some.under_way _ (other_set c.self.inside.set) (g.S.Site.disk c.args.site.now)
    c.as_slice.ensures at in
    moved _ _ _ _ _ _ of_set (c.as_slice.ensures ∙ same_body _ _ _ _ u c.in-Some.under_way view is was)
    (c.run.ensures.crash t at1)

pub returns-in_err-run-clause-settles : goal.returns-in_err-run-clause-settles
returns-in_err-run-clause-settles g c u image t was stands settles =
    let view = c.self.view_is in
    let is = sym c.take.ensures.value ∙ c.in-Some.is in
    let at = stands_at _ _ _ _ (g.S.Site.disk c.args.site.now) c.in-Some.under_way view is stands in
    let of_set = ap (λ (t : Turn). t.set) view in
    let at1 = at_slice c.in-Some.under_way _ (other_set c.self.inside.set) (g.S.Site.disk c.args.site.now)
    c.as_slice.ensures at in
    moved_image _ _ _ _ _ image of_set (c.as_slice.ensures ∙ same_body _ _ _ _ u c.in-Some.under_way view is was)
    (c.run.ensures.settles image t at1
    (subst (λ n. Settles (g.S.Site.disk c.run.new.site) (other_set n) image) (sym of_set) settles))

pub returns-clause-crash : goal.returns-clause-crash
returns-clause-crash g c u t was stands =
    let view = c.self.view_is in
    let is = sym c.take.ensures.value ∙ c.in-Some.is in
    let at = stands_at _ _ _ _ (g.S.Site.disk c.args.site.now) c.in-Some.under_way view is stands in
    let of_set = ap (λ (t : Turn). t.set) view in
    let at1 = at_slice c.in-Some.under_way _ (other_set c.self.inside.set) (g.S.Site.disk c.args.site.now)
    c.as_slice.ensures at in
    moved _ _ _ _ _ _ of_set (c.as_slice.ensures ∙ same_body _ _ _ _ u c.in-Some.under_way view is was)
    (c.run.ensures.crash t at1)

pub returns-clause-settles : goal.returns-clause-settles
returns-clause-settles g c u image t was stands settles =
    let view = c.self.view_is in
    let is = sym c.take.ensures.value ∙ c.in-Some.is in
    let at = stands_at _ _ _ _ (g.S.Site.disk c.args.site.now) c.in-Some.under_way view is stands in
    let of_set = ap (λ (t : Turn). t.set) view in
    let at1 = at_slice c.in-Some.under_way _ (other_set c.self.inside.set) (g.S.Site.disk c.args.site.now)
    c.as_slice.ensures at in
    moved_image _ _ _ _ _ image of_set (c.as_slice.ensures ∙ same_body _ _ _ _ u c.in-Some.under_way view is was)
    (c.run.ensures.settles image t at1
    (subst (λ n. Settles (g.S.Site.disk c.run.new.site) (other_set n) image) (sym of_set) settles))

abbrev turn_of : ℕ → ℕ → Option UnderWay → Turn
turn_of set number o = record { set = other_set set; number = number; under_way = o }

-- the data set and the number of what was under way are those of the newest sure one
turned : (o : Option UnderWay) (view : Turn) (set : ℕ) (w u : UnderWay) → o ≡ None → set ≡ view.set → w ≡ u
    → turn_of set w.number o ≡ turn_of view.set u.number None
turned o view set w u none of_set of_way =
    ap (λ n. turn_of n w.number o) of_set ∙ ap (λ (v : UnderWay). turn_of view.set v.number o) of_way
    ∙ ap (λ p. turn_of view.set u.number p) none

pub returns-clause-turn : goal.returns-clause-turn
returns-clause-turn g c u was =
    let view = c.self.view_is in
    let is = sym c.take.ensures.value ∙ c.in-Some.is in
    turned c.take.new.self c.args.self.now c.self.inside.set c.in-Some.under_way u c.take.ensures.after
    (ap (λ (t : Turn). t.set) view)
    (same_Some c.in-Some.under_way u (sym is ∙ ap (λ (t : Turn). t.under_way) view ∙ was))

pub returns-clause-sure : goal.returns-clause-sure
returns-clause-sure g c u t goes was =
    let view = c.self.view_is in
    let is = sym c.take.ensures.value ∙ c.in-Some.is in
    let at = goes_at _ _ _ _ (g.S.Site.disk c.args.site.now) c.in-Some.under_way view is goes in
    let of_set = ap (λ (t : Turn). t.set) view in
    let at1 = goes_slice c.in-Some.under_way _ (other_set c.self.inside.set) (g.S.Site.disk c.args.site.now)
    c.as_slice.ensures at in
    let sure = c.in_ok-run.ensures.sure t at1 in
    record {
      u = c.in-Some.under_way;
      was = ap (λ (t : Turn). t.under_way) (sym view) ∙ is;
      sure = subst (λ n. IsSure c.in-Some.under_way.body (other_set n) (g.S.Site.disk c.run.new.site)) of_set
          (subst (λ b. IsSure b (other_set c.self.inside.set) (g.S.Site.disk c.run.new.site)) c.as_slice.ensures sure);
      turn = ap (λ n. record { set = other_set n; number = c.in-Some.under_way.number; under_way = c.take.new.self })
          of_set
          ∙ ap (λ o. record { set = other_set c.args.self.now.set; number = c.in-Some.under_way.number; under_way = o })
          c.take.ensures.after;
    }
