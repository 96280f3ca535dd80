use Rattle.std.proofs.Common.{◌≡◌, ◌∙◌, ◌∷◌, [], length, arith, sym, ap}
use Rattle.std.proofs.lemmas.Result.{err_from_is_err_and}
use Rattle.std.specs.Vec.Iter.{into_iter_items}
use Rattle.txn_tokens.specs.Lookups.{dedb_ssas}
use Rattle.txn_tokens.proofs.ReadingLemmas.{with_nothing}
use Rattle.txn_tokens.proofs.LookupLemmas.{dedb_goes, dedb_fails, dedb_done}
use Rattle.txn_tokens.proofs.lookups.dedb_ssas.Goals as goal
use Rattle.plain_laws.proofs.Lists.{nil_by_length}

pub loop-ssa-init : goal.loop-ssa-init
loop-ssa-init c = record {
  can = tt;
  finite = tt;
  counted = c.into_iter-ssa-iterator.ensures.into_iter_gives.1 ∙ c.into_vec-ssa-items.result.ok.0 ∙ sym
      (ap length c.into_iter-ssa-iterator.ensures.into_iter_gives.0);
  so_far = rw (c.into_iter-ssa-iterator.ensures.into_iter_gives.0, c.into_vec-ssa-items.ensures, c.new-ssas.ensures)
      (with_nothing (dedb_ssas c.args.types.now c.args.written));
}

pub returns-in_err-segment : goal.returns-in_err-segment
returns-in_err-segment c =
    let p = err_from_is_err_and c.from_residual.result c.from_residual.ensures.1 in
    let split : into_iter_items c.loop-ssa.ssa-iterator ≡ c.in-Some.ssa ∷ into_iter_items c.next.new.self =
    c.in-Some.ensures.steps.0 in
    rw (p.1, p.2) (dedb_fails c.in_err-segment.field-0.0 c.args.types.now c.loop-ssa.ssas c.in-Some.ssa _
    (into_iter_items c.next.new.self) (dedb_ssas c.args.types.now c.args.written) split c.in_err-segment.ensures
    c.loop-ssa.invariant.so_far)

pub loop-ssa-preserved : goal.loop-ssa-preserved
loop-ssa-preserved c = record {
  can = tt;
  finite = tt;
  counted = omega (arith, c.in-Some.ensures.steps.1, c.loop-ssa.invariant.counted, ap length c.in-Some.ensures.steps.0);
  so_far =
      let split : into_iter_items c.loop-ssa.ssa-iterator ≡ c.in-Some.ssa ∷ into_iter_items c.next.new.self =
      c.in-Some.ensures.steps.0 in
      rw (c.in_ok-push.ensures.ok) (dedb_goes c.args.types.now c.loop-ssa.ssas c.in-Some.ssa _
      (into_iter_items c.next.new.self) c.in_ok-segment.segment (dedb_ssas c.args.types.now c.args.written) split
      c.in_ok-segment.ensures c.loop-ssa.invariant.so_far);
}

pub returns : goal.returns
returns c =
    let none : into_iter_items c.loop-ssa.ssa-iterator ≡ [] =
    nil_by_length _ (sym c.loop-ssa.invariant.counted ∙ c.in-None.ensures.steps.0) in
    dedb_done c.args.types.now c.loop-ssa.ssas _ (dedb_ssas c.args.types.now c.args.written) none
    c.loop-ssa.invariant.so_far
