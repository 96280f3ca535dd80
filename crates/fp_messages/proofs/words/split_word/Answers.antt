use Rattle.std.proofs.Common.{rules, tests, ◌∙◌, ◌+◌, sym, ap, arith, take, drop}
use Rattle.std.proofs.lemmas.List.{take_all}
use Rattle.std.proofs.lemmas.Iterator.{YieldsList-from_slice}
use Rattle.std.proofs.lemmas.Iterator.Search.{position_from_yields_List}
use Rattle.std.proofs.lemmas.Grind.{common_steps}
use Rattle.fp_model.specs.Messages.{is_separator}
use Rattle.fp_messages.proofs.words.split_word.Goals as goal
use Rattle.plain_laws.proofs.Places.{place_is, whole_is}

pub returns-in-Some-clause-word : goal.returns-in-Some-clause-word
returns-in-Some-clause-word c =
    let found = position_from_yields_List is_separator _ _ c.position.result c.position.ensures.ran
    (YieldsList-from_slice c.args.line.now cc) (λ x b q k. search (rules, tests)) in
    let place = place_is is_separator c.args.line.now c.in-Some.place (sym found ∙ c.in-Some.is) in
    ap (λ n. take n c.args.line.now) (sym place)

pub returns-in-Some-clause-behind : goal.returns-in-Some-clause-behind
returns-in-Some-clause-behind c =
    let found = position_from_yields_List is_separator _ _ c.position.result c.position.ensures.ran
    (YieldsList-from_slice c.args.line.now cc) (λ x b q k. search (rules, tests)) in
    let place = place_is is_separator c.args.line.now c.in-Some.place (sym found ∙ c.in-Some.is) in
    take_all _ _ (grind (arith, common_steps)) ∙ ap (λ n. drop (n + 1) c.args.line.now) (sym place)

pub returns-in-None-clause-word : goal.returns-in-None-clause-word
returns-in-None-clause-word c =
    let found = position_from_yields_List is_separator _ _ c.position.result c.position.ensures.ran
    (YieldsList-from_slice c.args.line.now cc) (λ x b q k. search (rules, tests)) in
    let place = whole_is is_separator c.args.line.now (sym found ∙ c.in-None.is) in
    sym (take_all _ _ place)

pub returns-in-None-clause-behind : goal.returns-in-None-clause-behind
returns-in-None-clause-behind c =
    let found = position_from_yields_List is_separator _ _ c.position.result c.position.ensures.ran
    (YieldsList-from_slice c.args.line.now cc) (λ x b q k. search (rules, tests)) in
    let place = whole_is is_separator c.args.line.now (sym found ∙ c.in-None.is) in
    grind (arith, common_steps)
