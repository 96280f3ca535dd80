use Rattle.std.proofs.Common.{◌≡◌, ◌*◌, ◌+◌, ◌<◌, ◌^◌, ◌∙◌, sym, ap, subst}
use Rattle.std.specs.Prelude.{Some, slice_index}
use Rattle.std.proofs.lemmas.Result.{err_from_is_err_and}
use Rattle.ci_space.specs.Head.{ends_of}
use Rattle.ci_overflow.specs.Places.{first_independent}
use Rattle.area_states.specs.Places.{counted_by}
use Rattle.plain_laws.proofs.Results.{same_fault}
use Rattle.dedb_area.specs.Control.{IsControl}
use Rattle.dedb_area.specs.declared.fault.AreaFault.TheVariants as fault
use Rattle.dedb_area.proofs.AnchorLemmas.{some_counted}
use Rattle.dedb_area.proofs.StageLemmas.{none_given}
use Rattle.dedb_area.proofs.StagedPurge.{not_past}
use Rattle.dedb_area.proofs.counting.counted.Goals as goal

pub returns-in_err-control : goal.returns-in_err-control
returns-in_err-control g c =
    let why = c.in_err-control.ensures in
    let looked = c.control.ensures in
    let p = err_from_is_err_and c.from_residual.result c.from_residual.ensures.1 in
    record {
      count = λ told bytes shown. none_given _ _ _ p.1;
      ends = none_given _ _ _ p.1;
      damaged = λ told bytes shown s at e counts.
          why.damaged told shown.told.clean shown.told.sizes s at (same_fault _ _ _ _ p.1 p.2 e)
          (subst IsControl (sym (shown.newest 0 (some_counted c.args.place.now (bytes 0)))) counts.is_control);
      first = λ s at e. why.first s at (same_fault _ _ _ _ p.1 p.2 e);
      failed = λ e. why.failed (same_fault _ _ _ _ p.1 p.2 e);
      never_full = λ s begin end n e. why.never_full s begin end n (same_fault _ _ _ _ p.1 p.2 e);
      unread = looked.unread;
      hand = looked.hand;
      looks = looked.looks;
    }

pub returns-in-Some : goal.returns-in-Some
returns-in-Some g c =
    let place = c.args.place.now in
    let looked = c.control.ensures in
    record {
      count = λ told bytes shown.
          c.in-Some.ensures.some
          ∙ ap (counted_by (Some place)) (c.in_ok-control.ensures.newest told shown.told.clean shown.told.sizes
          ∙ shown.newest 0 (some_counted place (bytes 0)));
      ends = c.in-Some.ensures.ends;
      damaged = λ told bytes shown s at e counts. cc;
      first = λ s at e. absurd cc;
      failed = λ e. absurd cc;
      never_full = λ s begin end n e. cc;
      unread = looked.unread;
      hand = looked.hand;
      looks = looked.looks;
    }

-- an area that ends past byte 2^62
pub returns : goal.returns
returns g c =
    let place = c.args.place.now in
    let looked = c.control.ensures in
    record {
      count = λ told bytes shown. tt;
      ends = tt;
      damaged = λ told bytes shown s at e counts.
          let same = c.in_ok-control.ensures.newest told shown.told.clean shown.told.sizes
          ∙ shown.newest 0 (some_counted place (bytes 0)) in
          not_past (counted_by (Some place) (bytes 0) * place.shape.ci)
          (subst (λ b. 2 ^ 62 < (first_independent place.shape + slice_index (ends_of b) 2) * place.shape.ci) same
          c.in-None.ensures.none) counts.ends;
      first = λ s at e.
          let same : fault.Damaged c.args.set 0 ≡ fault.Damaged s at = cc in
          let a : s ≡ c.args.set = cc in
          let b : at ≡ 0 = cc in
          (a, b);
      failed = λ e. absurd cc;
      never_full = λ s begin end n e. cc;
      unread = looked.unread;
      hand = looked.hand;
      looks = looked.looks;
    }
