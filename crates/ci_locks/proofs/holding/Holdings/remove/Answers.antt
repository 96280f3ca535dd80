use Rattle.std.proofs.Common.{arith, ◌≡◌, ◌<◌, ◌∙◌, None, ap, cond, length}
use Rattle.std.specs.Prelude.{slice_index_or}
use Rattle.std.specs.Vec.{with_item}
use Rattle.fp_model.specs.Texts.{same_text}
use Rattle.ci_locks.specs.Holdings.{at_key, holders_in}
use Rattle.ci_locks.proofs.Holdings.{none_there, put_anchor, put_table}
use Rattle.ci_locks.proofs.holding.Holdings.remove.Goals as goal

pub returns-in-Anchor : goal.returns-in-Anchor
returns-in-Anchor c = put_anchor (λ key. key.items) c.args.self.now.anchors c.remove.new.self
    c.args.self.now.segments.items c.args.resource.now c.in-Anchor.dedb c.in-Anchor.anchor None c.in-Anchor.is
    c.remove.ensures.updates.0

pub returns-then-place-len : goal.returns-then-place-len
returns-then-place-len c = λ other.
    let place : c.from-place.result ≡ c.in-Segment.msdb = c.from-place.ensures in
    let within : c.in-Segment.msdb < length c.args.self.now.segments.items = omega (arith, place) in
    ap (λ i. holders_in (record {
      anchors = c.args.self.now.anchors;
      segments =
          with_item c.args.self.now.segments i c.remove_key.new.table;
    }) other) place
    ∙ put_table (λ key. key.items) c.args.self.now.anchors c.args.self.now.segments.items c.index_mut.result.now
    c.remove_key.new.table c.args.resource.now c.in-Segment.msdb c.in-Segment.key None
    c.in-Segment.is within (c.index_mut.ensures.value ∙ ap
    (λ i. slice_index_or c.args.self.now.segments.items i c.index_mut.result.now) place)
    (λ k. c.remove_key.ensures k ∙ ap (λ text. cond (same_text text k) None
    (at_key (λ key. key.items) k c.index_mut.result.now)) c.as_slice.ensures) other

pub returns-else-place-len : goal.returns-else-place-len
returns-else-place-len c =
    let place : c.from-place.result ≡ c.in-Segment.msdb = c.from-place.ensures in
    none_there (λ key. key.items) c.args.self.now.anchors c.args.self.now.segments.items c.args.resource.now
    c.in-Segment.msdb c.in-Segment.key c.in-Segment.is (omega (arith, place))
