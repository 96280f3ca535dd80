use Rattle.std.proofs.Common.{◌∙◌, ◌<◌, length, sym}
use Rattle.std.proofs.lemmas.Result.{err_from_is_err_and}
use Rattle.txn_tokens.specs.Readings.{all_by}
use Rattle.txn_tokens.specs.Parts.{fsa_at}
use Rattle.txn_tokens.proofs.ReadingLemmas.{with_nothing, goes_on, fails, is_done, shorter_at}
use Rattle.txn_tokens.proofs.PartLemmas.{fsa_shrinks}
use Rattle.txn_tokens.proofs.parts.fsas_of.Goals as goal
use Rattle.plain_laws.proofs.Lists.{is_nil, some_first}

pub loop-rest-init : goal.loop-rest-init
loop-rest-init c = rw (c.new-fsas.ensures) (with_nothing (all_by fsa_at c.args.tokens.now))

pub returns-in_err-fsa : goal.returns-in_err-fsa
returns-in_err-fsa c =
    let p = err_from_is_err_and c.from_residual.result c.from_residual.ensures.1 in
    let some : 0 < length c.loop-rest.rest.now = some_first c.loop-rest.rest.now
    (sym c.is_empty.ensures ∙ c.loop-rest-test.true) in
    rw (p.1, p.2) (fails fsa_at fsa_shrinks c.in_err-fsa.field-0.0 c.loop-rest.fsas c.loop-rest.rest.now
    (all_by fsa_at c.args.tokens.now) some c.in_err-fsa.ensures c.loop-rest.invariant)

pub loop-rest-smaller : goal.loop-rest-smaller
loop-rest-smaller c = shorter_at _ _ _ _ c.in_ok-fsa.ensures (fsa_shrinks c.loop-rest.rest.now)

pub loop-rest-preserved : goal.loop-rest-preserved
loop-rest-preserved c = rw c.in_ok-push.ensures.ok (goes_on fsa_at fsa_shrinks c.loop-rest.fsas c.loop-rest.rest.now
    c.in_ok-fsa.fsa c.in_ok-fsa.behind.now (all_by fsa_at c.args.tokens.now) c.in_ok-fsa.ensures c.loop-rest.invariant)

pub returns : goal.returns
returns c = is_done fsa_at c.loop-rest.fsas c.loop-rest.rest.now (all_by fsa_at c.args.tokens.now)
    (is_nil c.loop-rest.rest.now (sym c.is_empty.ensures ∙ c.loop-rest-test.false)) c.loop-rest.invariant
