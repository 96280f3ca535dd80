use Rattle.std.proofs.Common.{◌≡◌, inr, ◌+◌, ◌<◌, refl, sym, ap, ◌∙◌, arith}
use Rattle.std.proofs.lemmas.Result.{err_from_is_err_and}
use Rattle.ci_space.proofs.Going.{goes-itself}
use Rattle.ci_overflow.specs.Lists.{bytes_at, link_of, owner_of, IsOwned}
use Rattle.ci_overflow.specs.Faults.{IsAtFault}
use Rattle.ci_overflow.proofs.Going.{named_fault}
use Rattle.ci_overflow.proofs.Joins.{link_is_number}
use Rattle.ci_overflow.proofs.Circles.{walk-on, walk-round}
use Rattle.ci_overflow.proofs.FaultLemmas.{shared-fault, early-fault, built-begins, built-on}
use Rattle.ci_overflow.proofs.Befores.{begins-at, leads-to, ends-without}
use Rattle.ci_overflow.proofs.before.walk.Goals as goal
use Rattle.ci_overflow.proofs.before.walk.Goals.{then-turns-eq0-via-then-turns-eq0, then-turns-eq0-via-else-turns-eq0+then-next-first_independent}
use Rattle.ci_space.proofs.GoingLemmas.{goes_on_joined}
use Rattle.plain_laws.proofs.Results.{same_fault}

pub loop-next-init : goal.loop-next-init
loop-next-init g c =
    let start = c.args.start in
    let link : c.head-next.result.link ≡ link_of start.interval =
    link_is_number start.interval c.head-next.result.link (ap (λ h. h.link) c.head-next.ensures.head) in
    record {
      goes_on = goes-itself _ _ _ _ _;
      number = refl;
      same = λ t. refl;
      in_list = λ t s. s;
      below = c.requires.in_range;
      interval = c.requires.interval;
      kind = c.requires.kind;
      size = c.requires.size;
      next = link;
      apart = c.requires.apart;
      turns = omega arith;
      walked = λ t s u. begins-at _ _ _ _ _ start u s link c.requires.some (omega arith);
      built = λ t s. built-begins _ _ _ _ (link ∙ ap link_of s.is_bytes);
    }

pub returns-then-next-eq0-clause-ends : goal.returns-then-next-eq0-clause-ends
returns-then-next-eq0-clause-ends g c = λ t s. ends-without _ _ _ _ (c.loop-next.invariant.built t s)
    c.if-next-eq0.true

pub returns-then-turns-eq0-clause-damaged : goal.returns-then-turns-eq0-clause-damaged
returns-then-turns-eq0-clause-damaged g c = λ t s u n e.
    let numbered = g.met.I.Intervals.numbered c.args.i.now t in
    let walked = c.loop-next.invariant.walked t s u in
    named_fault (IsAtFault c.args.shape.now (g.I.Intervals.intervals c.args.i.now)) c.loop-next.before.ci n e
    (elim c.then-turns-eq0.branch [
      | then-turns-eq0-via-then-turns-eq0 v ↦ walk-round _ _ _ _ _ _ walked
          (omega (arith, numbered, v.if-turns-eq0.true, c.count-turns.ensures))
          (omega (arith, numbered, c.loop-next.invariant.below))
      | then-turns-eq0-via-else-turns-eq0+then-next-first_independent v ↦
          early-fault _ _ _ _ _ walked.holds c.if-next-eq0.false
          (omega (arith, v.if-next-first_independent.true, v.first_independent.ensures.number))
    ])

pub returns-in_err-interval-clause-damaged : goal.returns-in_err-interval-clause-damaged
returns-in_err-interval-clause-damaged g c = λ t s u n e.
    let p = err_from_is_err_and c.from_residual-in_err-interval.result c.from_residual-in_err-interval.ensures.1 in
    let h = rw (c.loop-next.invariant.same t, c.from.ensures) at
    (c.in_err-interval.ensures.damaged (c.loop-next.invariant.goes_on.tells t) n (same_fault _ _ _ _ p.1 p.2 e))
    in
    shared-fault _ _ _ n (c.loop-next.invariant.walked t s u).holds c.if-next-eq0.false refl h

pub returns-in_err-interval-clause-goes_on : goal.returns-in_err-interval-clause-goes_on
returns-in_err-interval-clause-goes_on g c = goes_on_joined _ _ _ _ _ _ _ c.loop-next.invariant.goes_on
    c.read.ensures.goes_on

pub loop-next-preserved : goal.loop-next-preserved
loop-next-preserved g c =
    let link : c.head-link.result.link ≡ link_of c.in_ok-interval.interval =
    link_is_number c.in_ok-interval.interval c.head-link.result.link (ap (λ h. h.link) c.head-link.ensures.head)
    in
    let bytes : g.I.Intervals.told c.args.i.now → c.in_ok-interval.interval ≡ bytes_at
    (g.I.Intervals.intervals c.args.i.now) c.loop-next.next = λ t.
    (c.in_ok-interval.ensures.bytes (c.loop-next.invariant.goes_on.tells t) ∙ ap (λ xs. bytes_at xs c.loop-next.next)
    (c.loop-next.invariant.same t)) in
    let below : c.loop-next.next < g.I.Intervals.number c.args.i.now =
    omega (arith, c.in_ok-interval.ensures.below, c.loop-next.invariant.number) in
    let owned : g.I.Intervals.told c.args.i.now → IsOwned c.args.shape.now (g.I.Intervals.intervals c.args.i.now)
    (c.args.uow + 1) c.loop-next.next = λ t. record {
      from = omega (arith, c.if-next-first_independent.false, c.first_independent.ensures.number);
      below = omega (arith, g.met.I.Intervals.numbered c.args.i.now t, below);
      owned = sym (ap owner_of (bytes t)) ∙ c.in_ok-interval.ensures.owner ∙ ap (λ k. k + 1) c.from.ensures;
    } in
    record {
      goes_on = goes_on_joined _ _ _ _ _ _ _ c.loop-next.invariant.goes_on c.read.ensures.goes_on;
      number = c.read.ensures.number ∙ c.loop-next.invariant.number;
      same = λ t. c.in_ok-interval.ensures.same (c.loop-next.invariant.goes_on.tells t) ∙ c.loop-next.invariant.same
          t;
      in_list = λ t s. record { is_bytes = bytes t; stands = inr (owned t) };
      below = below;
      interval = c.in_ok-interval.ensures.interval;
      kind = inr c.in_ok-interval.ensures.kind;
      size = c.in_ok-interval.ensures.size ∙ c.loop-next.invariant.goes_on.same_size;
      next = link;
      apart = c.loop-next-test.true;
      turns = omega (arith, c.loop-next.invariant.turns);
      walked = λ t s u. walk-on _ _ _ _ _ _ _ _ (c.loop-next.invariant.walked t s u) (owned t)
          (link ∙ ap link_of (bytes t))
          (omega (arith, c.loop-next.invariant.turns, c.if-turns-eq0.false));
      built = λ t s. built-on _ _ _ _ _ c.loop-next-test.true c.if-next-eq0.false (link ∙ ap link_of (bytes t))
          (c.loop-next.invariant.built t s);
    }

pub returns-clause-found : goal.returns-clause-found
returns-clause-found g c = λ t s.
    leads-to _ _ _ _ _ c.loop-next.before (c.loop-next.invariant.in_list t s) c.loop-next.invariant.next
    c.loop-next-test.false c.loop-next.invariant.apart
