use Rattle.std.proofs.Common.{rules, tests, ◌≡◌, ◌<◌, ◌∙◌, ◌∷◌, ◌-◌, ℕ, List, sym, ap, arith, length, take, drop, take_all}
use Rattle.std.proofs.lemmas.Iterator.{YieldsList-from_slice}
use Rattle.std.proofs.lemmas.Iterator.Search.{position_from_yields_List}
use Rattle.std.proofs.lemmas.Grind.{common_steps}
use Rattle.fp_schedule.specs.Schedule.{separates, tokens_of}
use Rattle.fp_schedule.proofs.TokenLemmas.{end_of, starts_within, token_alone, token_before_more}
use Rattle.fp_schedule.proofs.tokens.split_token.Goals as goal
use Rattle.plain_laws.proofs.Places.{place_is, whole_is}

pub returns-in-Some-clause-some : goal.returns-in-Some-clause-some
returns-in-Some-clause-some c =
    let bytes : List ℕ = c.unseparated-found.result.now in
    let found = position_from_yields_List separates _ _ c.position.result c.position.ensures.ran
    (YieldsList-from_slice bytes cc) (λ x b q k. search (rules, tests)) in
    let place = place_is separates bytes c.in-Some.end (sym found ∙ c.in-Some.is) in
    let some : 0 < length bytes = grind (arith, common_steps) in
    let starts : 0 < end_of bytes = starts_within bytes some c.unseparated-found.ensures.begins in
    let within : end_of bytes < length bytes = grind (arith, common_steps) in
    let rest : take (length bytes - c.in-Some.end) (drop c.in-Some.end bytes) ≡ drop c.in-Some.end bytes =
    take_all _ _ (grind (arith, common_steps)) in
    sym c.unseparated-found.ensures.tokens ∙ token_before_more bytes starts within
    ∙ ap (λ (n : ℕ). take n bytes ∷ tokens_of (drop n bytes)) place
    ∙ ap (λ (rest : List ℕ). take c.in-Some.end bytes ∷ tokens_of rest) (sym rest)

pub returns-in-None-clause-some : goal.returns-in-None-clause-some
returns-in-None-clause-some c =
    let bytes : List ℕ = c.unseparated-found.result.now in
    let found = position_from_yields_List separates _ _ c.position.result c.position.ensures.ran
    (YieldsList-from_slice bytes cc) (λ x b q k. search (rules, tests)) in
    let place = whole_is separates bytes (sym found ∙ c.in-None.is) in
    let some : 0 < length bytes = grind (arith, common_steps) in
    sym c.unseparated-found.ensures.tokens ∙ token_alone bytes place some
