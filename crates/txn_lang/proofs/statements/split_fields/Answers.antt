use Rattle.std.proofs.Common.{rules, tests, ◌∙◌, sym, ap, arith, take, not}
use Rattle.std.proofs.lemmas.List.{take_all}
use Rattle.std.proofs.lemmas.Iterator.{YieldsList-from_slice}
use Rattle.std.proofs.lemmas.Iterator.Search.{position_from_yields_List}
use Rattle.std.proofs.lemmas.Grind.{common_steps}
use Rattle.txn_lang.specs.Statements.{is_before_fields}
use Rattle.txn_tokens.proofs.Runs.{behind_is, behind_none}
use Rattle.txn_lang.proofs.statements.split_fields.Goals as goal
use Rattle.plain_laws.proofs.Places.{place_is, whole_is}

pub returns-in-Some-clause-before : goal.returns-in-Some-clause-before
returns-in-Some-clause-before c =
    let found = position_from_yields_List (λ t. not (is_before_fields t)) _ _ c.position.result c.position.ensures.ran
    (YieldsList-from_slice c.args.tokens.now cc) (λ x b q k. search (rules, tests)) in
    let place = place_is (λ t. not (is_before_fields t)) c.args.tokens.now c.in-Some.place (sym found ∙ c.in-Some.is)
    in
    ap (λ n. take n c.args.tokens.now) (sym place)

pub returns-in-Some-clause-from : goal.returns-in-Some-clause-from
returns-in-Some-clause-from c =
    let found = position_from_yields_List (λ t. not (is_before_fields t)) _ _ c.position.result c.position.ensures.ran
    (YieldsList-from_slice c.args.tokens.now cc) (λ x b q k. search (rules, tests)) in
    let place = place_is (λ t. not (is_before_fields t)) c.args.tokens.now c.in-Some.place (sym found ∙ c.in-Some.is)
    in
    take_all _ _ (grind (arith, common_steps)) ∙ sym
    (behind_is is_before_fields c.args.tokens.now c.in-Some.place place)

pub returns-in-None-clause-before : goal.returns-in-None-clause-before
returns-in-None-clause-before c =
    let found = position_from_yields_List (λ t. not (is_before_fields t)) _ _ c.position.result c.position.ensures.ran
    (YieldsList-from_slice c.args.tokens.now cc) (λ x b q k. search (rules, tests)) in
    let place = whole_is (λ t. not (is_before_fields t)) c.args.tokens.now (sym found ∙ c.in-None.is) in
    sym (take_all _ _ place)

pub returns-in-None-clause-from : goal.returns-in-None-clause-from
returns-in-None-clause-from c =
    let found = position_from_yields_List (λ t. not (is_before_fields t)) _ _ c.position.result c.position.ensures.ran
    (YieldsList-from_slice c.args.tokens.now cc) (λ x b q k. search (rules, tests)) in
    let place = whole_is (λ t. not (is_before_fields t)) c.args.tokens.now (sym found ∙ c.in-None.is) in
    sym (behind_none is_before_fields c.args.tokens.now place)
