use Rattle.std.proofs.Common.{◌∙◌, ◌<◌, length, sym}
use Rattle.std.proofs.lemmas.Result.{err_from_is_err_and}
use Rattle.txn_tokens.specs.Readings.{all_by}
use Rattle.txn_tokens.specs.Parts.{ssa_at}
use Rattle.txn_tokens.proofs.ReadingLemmas.{with_nothing, goes_on, fails, is_done, shorter_at}
use Rattle.txn_tokens.proofs.PartLemmas.{ssa_shrinks}
use Rattle.txn_tokens.proofs.parts.ssas_in.Goals as goal
use Rattle.plain_laws.proofs.Lists.{is_nil, some_first}

pub loop-rest-init : goal.loop-rest-init
loop-rest-init c = rw (c.new-ssas.ensures) (with_nothing (all_by ssa_at c.args.tokens.now))

pub returns-in_err-ssa : goal.returns-in_err-ssa
returns-in_err-ssa c =
    let p = err_from_is_err_and c.from_residual.result c.from_residual.ensures.1 in
    let some : 0 < length c.loop-rest.rest.now = some_first c.loop-rest.rest.now
    (sym c.is_empty.ensures ∙ c.loop-rest-test.true) in
    record {
      exact = rw (p.1, p.2) (fails ssa_at ssa_shrinks c.in_err-ssa.field-0.0 c.loop-rest.ssas c.loop-rest.rest.now
          (all_by ssa_at c.args.tokens.now) some c.in_err-ssa.ensures c.loop-rest.invariant);
    }

pub loop-rest-smaller : goal.loop-rest-smaller
loop-rest-smaller c = shorter_at _ _ _ _ c.in_ok-ssa.ensures (ssa_shrinks c.loop-rest.rest.now)

pub loop-rest-preserved : goal.loop-rest-preserved
loop-rest-preserved c = rw c.in_ok-push.ensures.ok (goes_on ssa_at ssa_shrinks c.loop-rest.ssas c.loop-rest.rest.now
    c.in_ok-ssa.ssa c.in_ok-ssa.behind.now (all_by ssa_at c.args.tokens.now) c.in_ok-ssa.ensures c.loop-rest.invariant)

pub returns : goal.returns
returns c = record {
  exact = is_done ssa_at c.loop-rest.ssas c.loop-rest.rest.now (all_by ssa_at c.args.tokens.now)
      (is_nil c.loop-rest.rest.now (sym c.is_empty.ensures ∙ c.loop-rest-test.false)) c.loop-rest.invariant;
}
