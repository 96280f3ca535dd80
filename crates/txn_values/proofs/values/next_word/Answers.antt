use Rattle.std.proofs.Common.{◌-◌, rules, tests, arith, sym, ◌∙◌, ap, length, take, drop, ℕ, List, ◌∷◌}
use Rattle.std.proofs.lemmas.Iterator.{YieldsList-from_slice}
use Rattle.std.proofs.lemmas.Iterator.Search.{position_from_yields_List}
use Rattle.std.proofs.lemmas.Grind.{common_steps}
use Rattle.fp_model.specs.Messages.{is_separator}
use Rattle.fp_model.specs.Values.{words}
use Rattle.txn_values.proofs.WordLemmas.{is_other, no_words, place_is, place_within, take_rest, whole_is, words_at, words_alone}
use Rattle.txn_values.proofs.values.next_word.Goals as goal

pub returns-in_err-start-clause-none : goal.returns-in_err-start-clause-none
returns-in_err-start-clause-none c =
    let found = position_from_yields_List is_other _ _ c.position.result c.position.ensures.ran
    (YieldsList-from_slice c.args.text.now cc) (λ x b q k. search (rules, tests)) in
    let all = no_words c.args.text.now (whole_is is_other c.args.text.now (sym found ∙ c.in_err-start.was)) in
    grind (arith, common_steps, all)

pub returns-in-Some-clause-some : goal.returns-in-Some-clause-some
returns-in-Some-clause-some c =
    let text = c.args.text.now in
    let start = c.in_ok-start.start in
    let rest : List ℕ = take (length text - start) (drop start text) in
    let first = position_from_yields_List is_other _ _ c.position.result c.position.ensures.ran
    (YieldsList-from_slice text cc) (λ x b q k. search (rules, tests)) in
    let second = position_from_yields_List is_separator _ _ c.position-2.result c.position-2.ensures.ran
    (YieldsList-from_slice rest cc) (λ x b q k. search (rules, tests)) in
    let at = sym first ∙ c.in_ok-start.was in
    words_at text rest start c.in-Some.end (place_is is_other text start at) (place_within is_other text start at)
    (take_rest text start) (place_is is_separator rest c.in-Some.end (sym second ∙ c.in-Some.is))
    ∙ ap (λ (x : List ℕ). take c.in-Some.end rest ∷ words x) (sym (take_rest rest c.in-Some.end))

pub returns-in-None-clause-some : goal.returns-in-None-clause-some
returns-in-None-clause-some c =
    let text = c.args.text.now in
    let start = c.in_ok-start.start in
    let rest : List ℕ = take (length text - start) (drop start text) in
    let first = position_from_yields_List is_other _ _ c.position.result c.position.ensures.ran
    (YieldsList-from_slice text cc) (λ x b q k. search (rules, tests)) in
    let second = position_from_yields_List is_separator _ _ c.position-2.result c.position-2.ensures.ran
    (YieldsList-from_slice rest cc) (λ x b q k. search (rules, tests)) in
    let at = sym first ∙ c.in_ok-start.was in
    words_alone text rest start (place_is is_other text start at) (place_within is_other text start at)
    (take_rest text start) (whole_is is_separator rest (sym second ∙ c.in-None.is))
