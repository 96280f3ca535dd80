use Rattle.std.proofs.Common.{◌≡◌, ◌∙◌, ap, sym, subst, rules}
use Rattle.ci_space.specs.Interval.{kind_of}
use Rattle.ci_space.specs.declared.head.Head.{Head}
use Rattle.dedb_area.specs.declared.fault.AreaFault.TheVariants as fault
use Rattle.dedb_area.proofs.StageLemmas.{handed_on}
use Rattle.dedb_area.proofs.reading.control.Goals as goal

pub returns-then-head-eq-CONTROL : goal.returns-then-head-eq-CONTROL
returns-then-head-eq-CONTROL g c =
    let looked = c.interval_at.ensures in
    record {
      newest = c.in-Ok.ensures.newest;
      kind = search rules;
      interval = c.in-Ok.ensures.interval;
      size = c.in-Ok.ensures.size;
      damaged = λ told clean sizes s at e is. cc;
      first = λ s at e. absurd cc;
      failed = λ e. absurd cc;
      never_full = λ s begin end n e. cc;
      unread = looked.unasked;
      hand = looked.hand;
      looks = looked.looks;
    }

pub returns-else-head-eq-CONTROL : goal.returns-else-head-eq-CONTROL
returns-else-head-eq-CONTROL g c =
    let looked = c.interval_at.ensures in
    record {
      newest = λ told clean sizes. tt;
      kind = tt;
      interval = tt;
      size = tt;
      damaged = λ told clean sizes s at e is.
          let same = c.in-Ok.ensures.newest told clean sizes in
          c.if-head-eq-CONTROL.false (ap (λ (h : Head). h.kind) c.head.ensures.head
          ∙ subst (λ b. kind_of b ≡ 1) (sym same) is.is_kind);
      first = λ s at e.
          let same : fault.Damaged c.args.set 0 ≡ fault.Damaged s at = cc in
          let a : s ≡ c.args.set = cc in
          let b : at ≡ 0 = cc in
          (a, b);
      failed = λ e. absurd cc;
      never_full = λ s begin end n e. cc;
      unread = looked.unasked;
      hand = looked.hand;
      looks = looked.looks;
    }

pub returns-in-Err-Failed : goal.returns-in-Err-Failed
returns-in-Err-Failed g c =
    let looked = c.interval_at.ensures in
    record {
      newest = λ told clean sizes. tt;
      kind = tt;
      interval = tt;
      size = tt;
      damaged = λ told clean sizes s at e is. cc;
      first = λ s at e. absurd cc;
      failed = λ e.
          looked.failed (handed_on c.interval_at.result _ _ c.in-Err-Failed.is c.in-Err-Failed.field-0-is);
      never_full = λ s begin end n e. cc;
      unread = looked.unasked;
      hand = looked.hand;
      looks = looked.looks;
    }

pub returns-in-Err-BadTiles : goal.returns-in-Err-BadTiles
returns-in-Err-BadTiles g c =
    let looked = c.interval_at.ensures in
    record {
      newest = λ told clean sizes. tt;
      kind = tt;
      interval = tt;
      size = tt;
      damaged = λ told clean sizes s at e is.
          looked.bad_bytes told clean sizes c.in-Err-BadTiles.field-0-0
          (handed_on c.interval_at.result _ _ c.in-Err-BadTiles.is c.in-Err-BadTiles.field-0-is) is.is_interval;
      first = λ s at e.
          let same : fault.Damaged c.args.set 0 ≡ fault.Damaged s at = cc in
          let a : s ≡ c.args.set = cc in
          let b : at ≡ 0 = cc in
          (a, b);
      failed = λ e. absurd cc;
      never_full = λ s begin end n e. cc;
      unread = looked.unasked;
      hand = looked.hand;
      looks = looked.looks;
    }

pub returns-in-Err-Memory : goal.returns-in-Err-Memory
returns-in-Err-Memory g c =
    let looked = c.interval_at.ensures in
    record {
      newest = λ told clean sizes. tt;
      kind = tt;
      interval = tt;
      size = tt;
      damaged = λ told clean sizes s at e is. cc;
      first = λ s at e. absurd cc;
      failed = λ e. absurd cc;
      never_full = λ s begin end n e. cc;
      unread = looked.unasked;
      hand = looked.hand;
      looks = looked.looks;
    }
