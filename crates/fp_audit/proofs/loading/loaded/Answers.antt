use Rattle.std.proofs.Common.{◌+◌, subst, drop, arith}
use Rattle.fp_audit.proofs.Loads.{IsLoadingPast, past_is, past_loaded, past_more, rest_at}
use Rattle.fp_audit.proofs.loading.loaded.Goals as goal
use Rattle.plain_laws.proofs.Lists.{drop_whole}

pub loop-segment-preserved : goal.loop-segment-preserved
loop-segment-preserved c =
    let def = c.args.def.now in
    let items = c.as_slice-segment-items.result.now in
    let i = c.loop-segment.segment-index in
    let s = c.in_ok-copy.field-0 in
    let rest = drop (i + 1) items in
    record {
      items = c.loop-segment.invariant.items;
      loading = past_more def c.loop-segment.past c.put.new.self s rest
          (subst (IsLoadingPast def c.loop-segment.past)
          (rest_at items i c.segment-item.result s c.loop-segment-test.true c.segment-item.is c.in_ok-copy.ensures)
          c.loop-segment.invariant.loading)
          (λ p. c.in_ok-put.ensures.from def p c.loop-segment.invariant.loading.count (omega arith))
          c.put.ensures.settled c.put.ensures.count;
    }

pub returns-clause-is : goal.returns-clause-is
returns-clause-is c =
    past_is c.args.def.now c.loop-segment.past
    (subst (IsLoadingPast c.args.def.now c.loop-segment.past)
    (drop_whole c.as_slice-segment-items.result.now c.loop-segment.segment-index c.loop-segment-test.false)
    c.loop-segment.invariant.loading)

pub returns-clause-loaded : goal.returns-clause-loaded
returns-clause-loaded c =
    past_loaded c.args.def.now c.loop-segment.past
    (subst (IsLoadingPast c.args.def.now c.loop-segment.past)
    (drop_whole c.as_slice-segment-items.result.now c.loop-segment.segment-index c.loop-segment-test.false)
    c.loop-segment.invariant.loading)
