use Rattle.std.proofs.Common.{rules, tests, ◌∙◌, ◌+◌, ◌-◌, sym, refl, arith, drop, length}
use Rattle.std.specs.Prelude.{◌==◌}
use Rattle.std.proofs.lemmas.List.{take_all}
use Rattle.std.proofs.lemmas.Iterator.{YieldsList-from_slice}
use Rattle.std.proofs.lemmas.Iterator.Search.{position_from_yields_List}
use Rattle.std.proofs.lemmas.Grind.{common_steps}
use Rattle.txn_tokens.proofs.Runs.{place_within}
use Rattle.txn_lang.proofs.TextLemmas.{lines_first, lines_last}
use Rattle.txn_lang.proofs.reader.split_line.Goals as goal
use Rattle.plain_laws.proofs.Places.{place_is, whole_is}

pub returns-in-Some-clause-lines : goal.returns-in-Some-clause-lines
returns-in-Some-clause-lines c =
    let found = position_from_yields_List (λ b. b == 10) _ _ c.position.result c.position.ensures.ran
    (YieldsList-from_slice c.args.text.now cc) (λ x b q k. search (rules, tests)) in
    let e = sym found ∙ c.in-Some.is in
    let first = lines_first c.args.text.now c.in-Some.place
    (place_within (λ b. b == 10) c.args.text.now c.in-Some.place e)
    (place_is (λ b. b == 10) c.args.text.now c.in-Some.place e) in
    let all = take_all (length c.args.text.now - (c.in-Some.place + 1)) (drop (c.in-Some.place + 1) c.args.text.now)
    (grind (arith, common_steps)) in
    first ∙ rw (c.without_return.ensures, all) refl

pub returns-in-None-clause-lines : goal.returns-in-None-clause-lines
returns-in-None-clause-lines c =
    let found = position_from_yields_List (λ b. b == 10) _ _ c.position.result c.position.ensures.ran
    (YieldsList-from_slice c.args.text.now cc) (λ x b q k. search (rules, tests)) in
    lines_last c.args.text.now c.requires (whole_is (λ b. b == 10) c.args.text.now (sym found ∙ c.in-None.is))
