use Rattle.std.proofs.Common.{◌∙◌, ◌<◌, length, sym}
use Rattle.std.proofs.lemmas.Result.{err_from_is_err_and}
use Rattle.txn_tokens.specs.Readings.{all_by}
use Rattle.txn_tokens.specs.Tokens.{spaced_token_at, tokens_of, unblanked}
use Rattle.txn_tokens.proofs.ReadingLemmas.{with_nothing, goes_on, fails, is_done, shorter_at}
use Rattle.txn_tokens.proofs.Shrinking.{spaced_shrinks}
use Rattle.txn_tokens.proofs.tokens.tokens_of.Goals as goal
use Rattle.plain_laws.proofs.Lists.{is_nil, some_first}

pub loop-rest-init : goal.loop-rest-init
unfolding tokens_of
loop-rest-init c = rw (c.unblanked-rest.ensures.exact, c.new-tokens.ensures.items)
    (with_nothing (all_by spaced_token_at (unblanked c.args.line.now)))

pub returns-in_err-token : goal.returns-in_err-token
returns-in_err-token c =
    let p = err_from_is_err_and c.from_residual.result c.from_residual.ensures.1 in
    let some : 0 < length c.loop-rest.rest.now = some_first c.loop-rest.rest.now
    (sym c.is_empty.ensures ∙ c.loop-rest-test.true) in
    record {
      exact = rw (p.1, p.2) (fails spaced_token_at spaced_shrinks c.in_err-token.field-0.0 c.loop-rest.tokens.items
          c.loop-rest.rest.now (tokens_of c.args.line.now) some c.in_err-token.ensures c.loop-rest.invariant);
    }

pub loop-rest-smaller : goal.loop-rest-smaller
loop-rest-smaller c = shorter_at _ _ _ _ c.in_ok-token.ensures (spaced_shrinks c.loop-rest.rest.now)

pub loop-rest-preserved : goal.loop-rest-preserved
loop-rest-preserved c = rw c.in_ok-push.ensures.items
    (goes_on spaced_token_at spaced_shrinks c.loop-rest.tokens.items c.loop-rest.rest.now c.in_ok-token.token
    c.in_ok-token.behind.now (tokens_of c.args.line.now) c.in_ok-token.ensures c.loop-rest.invariant)

pub returns : goal.returns
returns c = record {
  exact = is_done spaced_token_at c.loop-rest.tokens.items c.loop-rest.rest.now (tokens_of c.args.line.now)
      (is_nil c.loop-rest.rest.now (sym c.is_empty.ensures ∙ c.loop-rest-test.false)) c.loop-rest.invariant;
}
