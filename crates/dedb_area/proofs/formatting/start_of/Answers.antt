use Rattle.std.proofs.Common.{◌∙◌, ap, arith}
use Rattle.ci_space.specs.Head.{ends_of}
use Rattle.ci_space.specs.Interval.{kind_of, empty_bytes}
use Rattle.ci_overflow.specs.Places.{kind_at}
use Rattle.dedb_area.proofs.formatting.start_of.Goals as goal
use Rattle.dedb_area.proofs.formatting.start_of.Goals.{then-kind-eq-CONTROL, else-kind-eq-CONTROL}

pub returns-clause-control : goal.returns-clause-control
returns-clause-control c zero = elim c.if-kind-eq-CONTROL.branch [
  | then-kind-eq-CONTROL w ↦ (
    ap kind_of w.interval-is ∙ w.set_ends.ensures.head 0 (omega arith) (omega arith) ∙ c.in_ok-interval.ensures.kind
        ∙ w.if-kind-eq-CONTROL.true,
    ap ends_of w.interval-is ∙ w.set_ends.ensures.ends,
  )
  | else-kind-eq-CONTROL w ↦
      absurd (w.if-kind-eq-CONTROL.false (c.kind_at-kind.ensures.kind ∙ ap (kind_at c.args.shape.now) zero))
]

pub returns-clause-other : goal.returns-clause-other
returns-clause-other c some = elim c.if-kind-eq-CONTROL.branch [
  | then-kind-eq-CONTROL w ↦ absurd (some (c.kind_at-kind.ensures.control w.if-kind-eq-CONTROL.true))
  | else-kind-eq-CONTROL w ↦
      w.interval-is ∙ c.in_ok-interval.ensures.bytes
      ∙ ap (empty_bytes c.args.shape.now.ci) c.kind_at-kind.ensures.kind
]
