use Rattle.std.proofs.Common.{◌∙◌, ap, arith, sym, map, ◌<◌, ◌≤◌, length}
use Rattle.fp_model.specs.Settle.{resources, with_resource}
use Rattle.fp_model.specs.declared.calls.Deferred.TheVariants.{Fld}
use Rattle.fp_model.specs.declared.calls.Resource.TheVariants.{Segment}
use Rattle.sync_point.proofs.Placing.{from_call, of, put_name}
use Rattle.sync_point.proofs.naming.named_by.Goals as goal

pub loop-at-preserved-in_ok-insert : goal.loop-at-preserved-in_ok-insert
loop-at-preserved-in_ok-insert c =
    let calls = c.args.calls.now in
    let at = c.loop-at.at in
    let names = c.loop-at.names.keys in
    let key = c.in-Fld.key in
    let some : 0 < at = omega arith in
    let within : at ≤ length calls = omega arith in
    ap (map (of (λ n. n.msdb) (λ n. n.key.items))) c.in_ok-insert.ensures.keys
    ∙ put_name (λ n. n.msdb) (λ n. n.key.items) names (record { msdb = c.in-Fld.msdb; key = c.in_ok-key.key })
    ∙ ap (λ k. with_resource (Segment c.in-Fld.msdb k) (map (of (λ n. n.msdb) (λ n. n.key.items)) names))
    (c.in_ok-key.ensures.items ∙ c.as_slice.ensures)
    ∙ ap (with_resource (Segment c.in-Fld.msdb key)) c.loop-at.invariant
    ∙ ap resources (sym (from_call calls at c.index-calls-at.result (Fld c.in-Fld.msdb key c.in-Fld.fsas) some within
    c.index-calls-at.is c.in-Fld.is))
