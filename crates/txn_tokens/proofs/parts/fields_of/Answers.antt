use Rattle.std.proofs.Common.{◌∙◌, ◌<◌, length, sym}
use Rattle.std.proofs.lemmas.Result.{err_from_is_err_and}
use Rattle.txn_tokens.specs.Readings.{all_by}
use Rattle.txn_tokens.specs.Parts.{field_at}
use Rattle.txn_tokens.proofs.ReadingLemmas.{with_nothing, goes_on, fails, is_done, shorter_at}
use Rattle.txn_tokens.proofs.PartLemmas.{field_shrinks}
use Rattle.txn_tokens.proofs.parts.fields_of.Goals as goal
use Rattle.plain_laws.proofs.Lists.{is_nil, some_first}

pub loop-rest-init : goal.loop-rest-init
loop-rest-init c = rw (c.new-fields.ensures) (with_nothing (all_by field_at c.args.tokens.now))

pub returns-in_err-field : goal.returns-in_err-field
returns-in_err-field c =
    let p = err_from_is_err_and c.from_residual.result c.from_residual.ensures.1 in
    let some : 0 < length c.loop-rest.rest.now = some_first c.loop-rest.rest.now
    (sym c.is_empty.ensures ∙ c.loop-rest-test.true) in
    rw (p.1, p.2) (fails field_at field_shrinks c.in_err-field.field-0.0 c.loop-rest.fields c.loop-rest.rest.now
    (all_by field_at c.args.tokens.now) some c.in_err-field.ensures c.loop-rest.invariant)

pub loop-rest-smaller : goal.loop-rest-smaller
loop-rest-smaller c = shorter_at _ _ _ _ c.in_ok-field.ensures (field_shrinks c.loop-rest.rest.now)

pub loop-rest-preserved : goal.loop-rest-preserved
loop-rest-preserved c = rw c.in_ok-push.ensures.ok (goes_on field_at field_shrinks c.loop-rest.fields
    c.loop-rest.rest.now c.in_ok-field.field c.in_ok-field.behind.now (all_by field_at c.args.tokens.now)
    c.in_ok-field.ensures c.loop-rest.invariant)

pub returns : goal.returns
returns c = is_done field_at c.loop-rest.fields c.loop-rest.rest.now (all_by field_at c.args.tokens.now)
    (is_nil c.loop-rest.rest.now (sym c.is_empty.ensures ∙ c.loop-rest-test.false)) c.loop-rest.invariant
