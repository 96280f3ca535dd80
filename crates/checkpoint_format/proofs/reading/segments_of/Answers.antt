use Rattle.std.proofs.lemmas.Result.{err_from_is_err_and}
use Rattle.log_format.specs.Reading.{many_at, part_at}
use Rattle.log_format.proofs.Loop.{goes_on, ends, is_done}
use Rattle.checkpoint_format.proofs.reading.segments_of.Goals as goal

pub returns-in_err-segment : goal.returns-in_err-segment
returns-in_err-segment c =
    let p = err_from_is_err_and c.from_residual.result c.from_residual.ensures.1 in
    rw (p.1, p.2) (ends (part_at c.args.length) c.in_err-segment.field-0.0 c.loop.segments c.args.count c.loop.counter
    c.loop.rest.now (many_at (part_at c.args.length) c.args.count c.args.bytes.now) c.loop-test.true
    c.in_err-segment.ensures c.loop.invariant)

pub loop-preserved : goal.loop-preserved
loop-preserved c =
    rw c.in_ok-push.ensures.ok (goes_on (part_at c.args.length) c.loop.segments c.args.count c.loop.counter
    c.loop.rest.now c.in_ok-segment.segment c.in_ok-segment.after.now
    (many_at (part_at c.args.length) c.args.count c.args.bytes.now) c.loop-test.true c.in_ok-segment.ensures
    c.loop.invariant)

pub returns : goal.returns
returns c = is_done (part_at c.args.length) c.loop.segments c.args.count c.loop.counter c.loop.rest.now
    (many_at (part_at c.args.length) c.args.count c.args.bytes.now) c.loop-test.false c.loop.invariant
