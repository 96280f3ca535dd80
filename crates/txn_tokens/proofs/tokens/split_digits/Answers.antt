use Rattle.std.proofs.Common.{rules, tests, ◌∙◌, sym, ap, arith, take, not}
use Rattle.std.proofs.lemmas.List.{take_all}
use Rattle.std.proofs.lemmas.Iterator.{YieldsList-from_slice}
use Rattle.std.proofs.lemmas.Iterator.Search.{position_from_yields_List}
use Rattle.std.proofs.lemmas.Grind.{common_steps}
use Rattle.std.specs.Char.{is_ascii_digit as is_digit}
use Rattle.txn_tokens.proofs.Runs.{behind_is, behind_none}
use Rattle.txn_tokens.proofs.tokens.split_digits.Goals as goal
use Rattle.plain_laws.proofs.Places.{place_is, whole_is}

pub returns-in-Some-clause-front : goal.returns-in-Some-clause-front
returns-in-Some-clause-front c =
    let found = position_from_yields_List (λ b. not (is_digit b)) _ _ c.position.result c.position.ensures.ran
    (YieldsList-from_slice c.args.bytes.now cc) (λ x b q k. search (rules, tests)) in
    let place = place_is (λ b. not (is_digit b)) c.args.bytes.now c.in-Some.place (sym found ∙ c.in-Some.is) in
    ap (λ n. take n c.args.bytes.now) (sym place)

pub returns-in-Some-clause-rest : goal.returns-in-Some-clause-rest
returns-in-Some-clause-rest c =
    let found = position_from_yields_List (λ b. not (is_digit b)) _ _ c.position.result c.position.ensures.ran
    (YieldsList-from_slice c.args.bytes.now cc) (λ x b q k. search (rules, tests)) in
    let place = place_is (λ b. not (is_digit b)) c.args.bytes.now c.in-Some.place (sym found ∙ c.in-Some.is) in
    take_all _ _ (grind (arith, common_steps)) ∙ sym (behind_is is_digit c.args.bytes.now c.in-Some.place place)

pub returns-in-None-clause-front : goal.returns-in-None-clause-front
returns-in-None-clause-front c =
    let found = position_from_yields_List (λ b. not (is_digit b)) _ _ c.position.result c.position.ensures.ran
    (YieldsList-from_slice c.args.bytes.now cc) (λ x b q k. search (rules, tests)) in
    let place = whole_is (λ b. not (is_digit b)) c.args.bytes.now (sym found ∙ c.in-None.is) in
    sym (take_all _ _ place)

pub returns-in-None-clause-rest : goal.returns-in-None-clause-rest
returns-in-None-clause-rest c =
    let found = position_from_yields_List (λ b. not (is_digit b)) _ _ c.position.result c.position.ensures.ran
    (YieldsList-from_slice c.args.bytes.now cc) (λ x b q k. search (rules, tests)) in
    let place = whole_is (λ b. not (is_digit b)) c.args.bytes.now (sym found ∙ c.in-None.is) in
    sym (behind_none is_digit c.args.bytes.now place)
