use Rattle.std.proofs.Common.{◌≡◌, ◌≢◌, inl, inr, ◌+◌, ◌≤◌, ◌∙◌, get_or, refl, arith}
use Rattle.std.specs.Prelude.{slice_get, Some}
use Rattle.std.proofs.lemmas.Bool.{cases_eq}
use Rattle.std.proofs.lemmas.Option.{slice_get-get_or, slice_get_within}
use Rattle.fp_site.proofs.Frames.{only_in_joined, only_in_none}
use Rattle.fp_lists.proofs.ContinuedLemmas.{continued_both, continued_none}
use Rattle.fp_model.specs.State.{first_area_set}
use Rattle.dedb_area.proofs.Formatted.{formatted_here, formatted_still}
use Rattle.dedb_area.proofs.formatting.format_all.Goals as goal

pub loop-number-init : goal.loop-number-init
loop-number-init g c = record {
  formatted = λ t k place lt is. absurd (omega (arith, lt));
  only = λ t. only_in_none (λ s. first_area_set ≤ s) (g.T.Site.disk c.args.site.now);
  continued = continued_none _ _ _ _ _;
  reads = λ set t. (t, refl);
}

pub returns-in_err-format_area-clause-only : goal.returns-in_err-format_area-clause-only
returns-in_err-format_area-clause-only g c told =
    let inv = c.loop-number.invariant in
    let still = inv.continued.still_told in
    only_in_joined (λ s. first_area_set ≤ s) (g.T.Site.disk c.args.site.now) (g.T.Site.disk c.loop-number.site)
    (g.T.Site.disk c.format_area.new.site) (g.met.T.Site.lawful c.args.site.now told)
    (g.met.T.Site.lawful c.loop-number.site (still told)) (inv.only told) (c.format_area.ensures.areas (still told))

pub loop-number-preserved : goal.loop-number-preserved
loop-number-preserved g c =
    let inv = c.loop-number.invariant in
    let still = inv.continued.still_told in
    let e = c.format_area.ensures in
    let n = c.loop-number.number in
    let other = get_or c.args.places.now n c.index-places-number.result in
    let here : slice_get c.args.places.now n ≡ Some other =
    slice_get-get_or c.args.places.now n c.index-places-number.result c.loop-number-test.true in
    record {
      formatted = λ t k place lt is. elim (cases_eq k n) [
        | inl eq ↦
            formatted_here c.args.places.now n k place other (g.T.Site.disk c.format_area.new.site)
            eq is here (c.in_ok-format_area.ensures.started (still t)) (c.in_ok-format_area.ensures.durable (still t))
        | inr ne ↦
            let apart : first_area_set + k ≢ first_area_set + n = λ same. ne (omega (arith, same)) in
            formatted_still place.shape (first_area_set + k) (first_area_set + n) (g.T.Site.disk c.loop-number.site)
            (g.T.Site.disk c.format_area.new.site) apart (e.leaves (still t))
            (e.aside (still t) (first_area_set + k) apart) (inv.formatted t k place (omega (arith, lt, ne)) is)
      ];
      only = λ t. only_in_joined (λ s. first_area_set ≤ s) (g.T.Site.disk c.args.site.now)
          (g.T.Site.disk c.loop-number.site) (g.T.Site.disk c.format_area.new.site)
          (g.met.T.Site.lawful c.args.site.now t) (g.met.T.Site.lawful c.loop-number.site (still t)) (inv.only t)
          (e.areas (still t));
      continued = continued_both _ _ _ _ _ _ _ inv.continued e.site;
      reads = λ set t. let later = e.reads set t in let was = inv.reads set later.0 in (was.0, later.1 ∙ was.1);
    }

pub returns-clause-formatted : goal.returns-clause-formatted
returns-clause-formatted g c told number place is =
    let within = slice_get_within c.args.places.now number place is in
    c.loop-number.invariant.formatted told number place (omega (arith, within, c.loop-number-test.false)) is
