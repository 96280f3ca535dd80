use Rattle.std.proofs.Common.{◌≡◌, ◌∙◌, ◌<◌, ap, length, arith}
use Rattle.std.specs.Prelude.{if◌then◌else◌, Some, slice_index_or}
use Rattle.std.specs.Vec.{with_item}
use Rattle.ci_locks.specs.Holdings.{holders_in}
use Rattle.fp_model.specs.Waiting.{same_resource}
use Rattle.ci_locks.proofs.Holdings.{put_anchor, put_segment}
use Rattle.ci_locks.proofs.holding.Holdings.put.Goals as goal

pub returns-in_ok-insert-in-Anchor-clause-ok : goal.returns-in_ok-insert-in-Anchor-clause-ok
returns-in_ok-insert-in-Anchor-clause-ok c =
    put_anchor (λ key. key.items) c.args.self.now.anchors c.insert.new.self c.args.self.now.segments.items
    c.args.resource.now c.in-Anchor.dedb c.in-Anchor.anchor (Some c.args.holders) c.in-Anchor.is
    c.in_ok-insert-in-Anchor.ensures.updates.0

pub returns-in_ok-insert-in-Segment-clause-ok : goal.returns-in_ok-insert-in-Segment-clause-ok
returns-in_ok-insert-in-Segment-clause-ok c = λ other.
    let within : c.in-Segment.msdb < length c.make_table.new.self.segments.items = let l =
    c.in_ok-make_table-in-Segment.ensures.long in omega (arith, l) in
    let place : c.from.result ≡ c.in-Segment.msdb = c.from.ensures in
    ap (λ i. holders_in (record {
      anchors = c.make_table.new.self.anchors;
      segments =
          with_item c.make_table.new.self.segments i c.insert-in-Segment.new.self;
    }) other) place
    ∙ put_segment (λ key. key.items) c.make_table.new.self.anchors c.make_table.new.self.segments.items
    c.index_mut.result.now c.insert-in-Segment.new.self c.args.resource.now c.in-Segment.msdb c.in-Segment.key
    c.in_ok-key-in-Segment.key c.args.holders
    c.in-Segment.is (c.in_ok-key-in-Segment.ensures.items ∙ c.as_slice.ensures) within
    (c.index_mut.ensures.value ∙ ap (λ i. slice_index_or c.make_table.new.self.segments.items i
    c.index_mut.result.now) place)
    c.in_ok-insert-in-Segment.ensures.entries other
    ∙ ap (λ v. if same_resource c.args.resource.now other then Some c.args.holders else v)
    (c.in_ok-make_table-in-Segment.ensures.same other)
