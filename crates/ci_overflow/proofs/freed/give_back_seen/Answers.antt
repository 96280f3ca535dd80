use Rattle.std.proofs.Common.{◌≡◌, ◌<◌, false, true, length, sym, ap, subst, ◌∙◌, arith}
use Rattle.std.proofs.lemmas.Result.{IfOk-from_err}
use Rattle.ci_space.specs.Interval.{IsUsed, kind_of}
use Rattle.ci_space.proofs.GoingLemmas.{goes_on_joined}
use Rattle.fp_lists.proofs.FaultLemmas.{rose_behind}
use Rattle.ci_overflow.specs.Lists.{bytes_at}
use Rattle.ci_overflow.specs.Freed.{BecomesEmpty}
use Rattle.ci_overflow.proofs.FaultLemmas.{in-order-sound, keeps-kind}
use Rattle.ci_overflow.proofs.Givings.{FreesAt, frees, given-back, order-alone, taken-alone, taken-moved, used-not_empty}
use Rattle.ci_overflow.proofs.MoveOrders.{order-moved}
use Rattle.ci_overflow.proofs.Going.{damaged_then, rose_then}
use Rattle.ci_overflow.proofs.freed.give_back_seen.Goals as goal
use Rattle.ci_overflow.proofs.freed.give_back_seen.Goals.{else-head-eq-INDEPENDENT-via-then-head-eq-INDEPENDENT+else-is_empty, else-head-eq-INDEPENDENT-via-else-head-eq-INDEPENDENT}
use Rattle.plain_laws.proofs.Results.{at_ok, on_ok_map}

pub returns-then-is_empty-clause-takes_back : goal.returns-then-is_empty-clause-takes_back
returns-then-is_empty-clause-takes_back g c = λ t.
    let same = c.in_ok-interval.ensures.same t in
    let f : FreesAt (bytes_at (g.I.Intervals.intervals c.args.i.now) c.args.ci) c.free.new.self c.args.at =
    frees _ _ _ _ (c.in_ok-interval.ensures.bytes t) c.in_ok-interval.ensures.used c.free.ensures.gone
    c.free.ensures.freed c.free.ensures.others c.free.ensures.head in
    let five : kind_of (bytes_at (g.I.Intervals.intervals c.args.i.now) c.args.ci) ≡ 5 =
    keeps-kind _ _ f.head ∙ sym (ap (λ h. h.kind) c.head.ensures.head) ∙ c.if-head-eq-INDEPENDENT.true in
    let moved = rw same at (c.move_to_free.ensures.moved (c.read_used.ensures.goes_on.tells t)) in
    on_ok_map _ _ _ (λ v. taken-moved _ _ _ _ _ c.free.new.self f five v) (moved f.head)

pub returns-then-is_empty-clause-given : goal.returns-then-is_empty-clause-given
returns-then-is_empty-clause-given g c = λ t o.
    let below : c.args.ci < length (g.I.Intervals.intervals c.args.i.now) =
    omega (arith, g.met.I.Intervals.numbered c.args.i.now t, c.in_ok-interval.ensures.below) in
    on_ok_map _ _ _ (λ b. given-back _ _ _ _ _ o below b) (returns-then-is_empty-clause-takes_back g c t)

pub returns-then-is_empty-clause-lists : goal.returns-then-is_empty-clause-lists
returns-then-is_empty-clause-lists g c = λ t o.
    let same = c.in_ok-interval.ensures.same t in
    let below : c.args.ci < length (g.I.Intervals.intervals c.args.i.now) =
    omega (arith, g.met.I.Intervals.numbered c.args.i.now t, c.in_ok-interval.ensures.below) in
    let f : FreesAt (bytes_at (g.I.Intervals.intervals c.args.i.now) c.args.ci) c.free.new.self c.args.at =
    frees _ _ _ _ (c.in_ok-interval.ensures.bytes t) c.in_ok-interval.ensures.used c.free.ensures.gone
    c.free.ensures.freed c.free.ensures.others c.free.ensures.head in
    let moved = rw same at (c.move_to_free.ensures.moved (c.read_used.ensures.goes_on.tells t)) in
    on_ok_map _ _ _ (λ v. order-moved _ _ _ _ c.free.new.self o below f.head v) (moved f.head)

pub returns-then-is_empty-clause-damaged : goal.returns-then-is_empty-clause-damaged
returns-then-is_empty-clause-damaged g c = λ t u n e.
    let same = c.in_ok-interval.ensures.same t in
    let f : FreesAt (bytes_at (g.I.Intervals.intervals c.args.i.now) c.args.ci) c.free.new.self c.args.at =
    frees _ _ _ _ (c.in_ok-interval.ensures.bytes t) c.in_ok-interval.ensures.used c.free.ensures.gone
    c.free.ensures.freed c.free.ensures.others c.free.ensures.head in
    let damaged = rw same at (c.move_to_free.ensures.damaged (c.read_used.ensures.goes_on.tells t)) in
    damaged f.head (used-not_empty _ c.args.at u) n e

pub returns-then-is_empty-clause-sound : goal.returns-then-is_empty-clause-sound
returns-then-is_empty-clause-sound g c = λ t o u n e. in-order-sound _ _ n o
    (returns-then-is_empty-clause-damaged g c t u n e)

pub returns-else-head-eq-INDEPENDENT-clause-takes_back : goal.returns-else-head-eq-INDEPENDENT-clause-takes_back
returns-else-head-eq-INDEPENDENT-clause-takes_back g c = λ t.
    let same = c.in_ok-interval.ensures.same t in
    let f : FreesAt (bytes_at (g.I.Intervals.intervals c.args.i.now) c.args.ci) c.free.new.self c.args.at =
    frees _ _ _ _ (c.in_ok-interval.ensures.bytes t) c.in_ok-interval.ensures.used c.free.ensures.gone
    c.free.ensures.freed c.free.ensures.others c.free.ensures.head in
    let stays : BecomesEmpty (bytes_at (g.I.Intervals.intervals c.args.i.now) c.args.ci) c.free.new.self → ⊥ = λ h.
    (elim c.else-head-eq-INDEPENDENT.branch [
      | else-head-eq-INDEPENDENT-via-then-head-eq-INDEPENDENT+else-is_empty w ↦
          (let q : false ≡ true = w.if-is_empty.ensures.1 h.is_empty in cc)
      | else-head-eq-INDEPENDENT-via-else-head-eq-INDEPENDENT w ↦
          w.if-head-eq-INDEPENDENT.false (ap (λ h. h.kind) c.head.ensures.head ∙ sym (keeps-kind _ _ f.head) ∙
          h.is_independent)
    ]) in
    on_ok_map _ _ _ (λ p. taken-alone _ _ _ _ _ _ c.free.new.self same f p stays)
    (c.write.ensures.put (c.read_used.ensures.goes_on.tells t))

pub returns-else-head-eq-INDEPENDENT-clause-given : goal.returns-else-head-eq-INDEPENDENT-clause-given
returns-else-head-eq-INDEPENDENT-clause-given g c = λ t o.
    let below : c.args.ci < length (g.I.Intervals.intervals c.args.i.now) =
    omega (arith, g.met.I.Intervals.numbered c.args.i.now t, c.in_ok-interval.ensures.below) in
    on_ok_map _ _ _ (λ b. given-back _ _ _ _ _ o below b) (returns-else-head-eq-INDEPENDENT-clause-takes_back g c t)

pub returns-else-head-eq-INDEPENDENT-clause-lists : goal.returns-else-head-eq-INDEPENDENT-clause-lists
returns-else-head-eq-INDEPENDENT-clause-lists g c = λ t o.
    let same = c.in_ok-interval.ensures.same t in
    let below : c.args.ci < length (g.I.Intervals.intervals c.args.i.now) =
    omega (arith, g.met.I.Intervals.numbered c.args.i.now t, c.in_ok-interval.ensures.below) in
    let f : FreesAt (bytes_at (g.I.Intervals.intervals c.args.i.now) c.args.ci) c.free.new.self c.args.at =
    frees _ _ _ _ (c.in_ok-interval.ensures.bytes t) c.in_ok-interval.ensures.used c.free.ensures.gone
    c.free.ensures.freed c.free.ensures.others c.free.ensures.head in
    on_ok_map _ _ _ (λ p. order-alone _ _ _ _ _ _ c.free.new.self same f p o below)
    (c.write.ensures.put (c.read_used.ensures.goes_on.tells t))

-- ---- what each exit says besides

pub returns-in_err-interval-clause-takes_back : goal.returns-in_err-interval-clause-takes_back
returns-in_err-interval-clause-takes_back g c = λ t. IfOk-from_err c.from_residual.result _ c.from_residual.ensures.0

pub returns-in_err-interval-clause-given : goal.returns-in_err-interval-clause-given
returns-in_err-interval-clause-given g c = λ t o. IfOk-from_err c.from_residual.result _ c.from_residual.ensures.0

pub returns-in_err-interval-clause-lists : goal.returns-in_err-interval-clause-lists
returns-in_err-interval-clause-lists g c = λ t o. IfOk-from_err c.from_residual.result _ c.from_residual.ensures.0

pub returns-in_err-interval-clause-used : goal.returns-in_err-interval-clause-used
returns-in_err-interval-clause-used g c = λ t. IfOk-from_err c.from_residual.result _ c.from_residual.ensures.0

pub returns-in_err-interval-clause-unused : goal.returns-in_err-interval-clause-unused
returns-in_err-interval-clause-unused g c = λ t u n. damaged_then c.from_residual.result _ n c.from_residual.ensures.1
    (c.in_err-interval.ensures.named t n)

pub returns-in_err-interval-clause-damaged : goal.returns-in_err-interval-clause-damaged
returns-in_err-interval-clause-damaged g c = λ t u n. damaged_then c.from_residual.result _ n c.from_residual.ensures.1
    (λ e. absurd (c.in_err-interval.ensures.damaged t u n e))

pub returns-in_err-interval-clause-sound : goal.returns-in_err-interval-clause-sound
returns-in_err-interval-clause-sound g c = λ t o u n. damaged_then c.from_residual.result _ n c.from_residual.ensures.1
    (c.in_err-interval.ensures.damaged t u n)

pub returns-in_err-interval-clause-failed : goal.returns-in_err-interval-clause-failed
returns-in_err-interval-clause-failed g c = rose_then c.from_residual.result _ _ _ _ c.from_residual.ensures.1 (omega
    arith)
    c.in_err-interval.ensures.failed

pub returns-then-is_empty-clause-used : goal.returns-then-is_empty-clause-used
returns-then-is_empty-clause-used g c = λ t. at_ok c.move_to_free.result _
    (subst (λ b. IsUsed b c.args.at) (c.in_ok-interval.ensures.bytes t) c.in_ok-interval.ensures.used)

pub returns-then-is_empty-clause-unused : goal.returns-then-is_empty-clause-unused
returns-then-is_empty-clause-unused g c = λ t u n e. absurd (u
    (subst (λ b. IsUsed b c.args.at) (c.in_ok-interval.ensures.bytes t) c.in_ok-interval.ensures.used))

pub returns-then-is_empty-clause-failed : goal.returns-then-is_empty-clause-failed
returns-then-is_empty-clause-failed g c = λ e. rose_behind _ _ _ c.read_used.ensures.goes_on.later
    (c.move_to_free.ensures.failed e)

pub returns-then-is_empty-clause-number : goal.returns-then-is_empty-clause-number
returns-then-is_empty-clause-number g c = c.move_to_free.ensures.number ∙ c.read_used.ensures.number

pub returns-then-is_empty-clause-goes_on : goal.returns-then-is_empty-clause-goes_on
returns-then-is_empty-clause-goes_on g c = goes_on_joined _ _ _ _ _ _ _ c.read_used.ensures.goes_on
    c.move_to_free.ensures.goes_on

pub returns-else-head-eq-INDEPENDENT-clause-used : goal.returns-else-head-eq-INDEPENDENT-clause-used
returns-else-head-eq-INDEPENDENT-clause-used g c = λ t. at_ok c.write.result _
    (subst (λ b. IsUsed b c.args.at) (c.in_ok-interval.ensures.bytes t) c.in_ok-interval.ensures.used)

pub returns-else-head-eq-INDEPENDENT-clause-unused : goal.returns-else-head-eq-INDEPENDENT-clause-unused
returns-else-head-eq-INDEPENDENT-clause-unused g c = λ t u n e. absurd (u
    (subst (λ b. IsUsed b c.args.at) (c.in_ok-interval.ensures.bytes t) c.in_ok-interval.ensures.used))

pub returns-else-head-eq-INDEPENDENT-clause-damaged : goal.returns-else-head-eq-INDEPENDENT-clause-damaged
returns-else-head-eq-INDEPENDENT-clause-damaged g c = λ t u n e. absurd (c.write.ensures.never_damaged n e)

pub returns-else-head-eq-INDEPENDENT-clause-sound : goal.returns-else-head-eq-INDEPENDENT-clause-sound
returns-else-head-eq-INDEPENDENT-clause-sound g c = λ t o u n. c.write.ensures.never_damaged n

pub returns-else-head-eq-INDEPENDENT-clause-failed : goal.returns-else-head-eq-INDEPENDENT-clause-failed
returns-else-head-eq-INDEPENDENT-clause-failed g c = λ e. absurd (c.write.ensures.never_failed e)

pub returns-else-head-eq-INDEPENDENT-clause-number : goal.returns-else-head-eq-INDEPENDENT-clause-number
returns-else-head-eq-INDEPENDENT-clause-number g c = c.write.ensures.number ∙ c.read_used.ensures.number

pub returns-else-head-eq-INDEPENDENT-clause-goes_on : goal.returns-else-head-eq-INDEPENDENT-clause-goes_on
returns-else-head-eq-INDEPENDENT-clause-goes_on g c = goes_on_joined _ _ _ _ _ _ _ c.read_used.ensures.goes_on
    c.write.ensures.goes_on
