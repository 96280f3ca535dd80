use Rattle.std.proofs.Common.{◌<◌, ◌+◌, ◌++◌, ap, arith, rules, get_or, sym, ◌∙◌, length, drop}
use Rattle.std.specs.List.{flat_map}
use Rattle.std.specs.Option.{option_copied}
use Rattle.fp_model.specs.CheckpointText.{msdb_text}
use Rattle.checkpoint_format.proofs.Lending.{database, has_database, no_more, segment_next}
use Rattle.checkpoint_format.proofs.writing.put_msdb.Goals as goal
use Rattle.plain_laws.proofs.Lists.{joined_on}

pub overflow_cast-count : goal.overflow_cast-count
overflow_cast-count c =
    let its = database c.args.msdbs.now.msdbs c.args.number in
    let is = has_database c.args.msdbs.now.msdbs c.args.number c.requires.within in
    let count = c.count-count.ensures its is in
    let few = c.requires.few its is in
    omega (arith, count, few)

pub unreachable-requires : goal.unreachable-requires
unreachable-requires c =
    let its = database c.args.msdbs.now.msdbs c.args.number in
    let is = has_database c.args.msdbs.now.msdbs c.args.number c.requires.within in
    let count = c.count-count.ensures its is in
    let less : c.loop-place.place < length its.segments = omega (arith, count, c.loop-place-test.true) in
    no_more its.segments c.loop-place.place (option_copied c.segment_at.result) less (c.segment_at.ensures its is)
    (ap option_copied c.in_default.is)

pub loop-place-preserved : goal.loop-place-preserved
loop-place-preserved c its is =
    joined_on c.loop-place.into c.append.new.self (c.args.into.now ++ msdb_text c.args.def.now its)
    c.in-Some.segment.now
    (flat_map (λ s. s) (drop (c.loop-place.place + 1) its.segments))
    (flat_map (λ s. s) (drop c.loop-place.place its.segments))
    (segment_next its.segments c.loop-place.place c.in-Some.segment.now (search rules))
    (c.loop-place.invariant its is) c.in_ok-append.ensures.ok
