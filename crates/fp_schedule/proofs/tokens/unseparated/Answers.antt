use Rattle.std.proofs.Common.{rules, tests, ◌∙◌, sym, ap, arith, drop, take_all, drop_of_length-le}
use Rattle.std.proofs.lemmas.Iterator.{YieldsList-from_slice}
use Rattle.std.proofs.lemmas.Iterator.Search.{position_from_yields_List}
use Rattle.std.proofs.lemmas.Grind.{common_steps}
use Rattle.fp_schedule.specs.Schedule.{tokens_of}
use Rattle.fp_schedule.proofs.TokenLemmas.{keeps, unseparated_tokens}
use Rattle.fp_schedule.proofs.tokens.unseparated.Goals as goal
use Rattle.plain_laws.proofs.Places.{place_is, whole_is}

pub returns-in-Some-clause-tokens : goal.returns-in-Some-clause-tokens
returns-in-Some-clause-tokens c =
    let found = position_from_yields_List keeps _ _ c.position.result c.position.ensures.ran
    (YieldsList-from_slice c.args.bytes.now cc) (λ x b q k. search (rules, tests)) in
    let place = place_is keeps c.args.bytes.now c.in-Some.place (sym found ∙ c.in-Some.is) in
    ap tokens_of (take_all _ _ (grind (arith, common_steps)) ∙ ap (λ n. drop n c.args.bytes.now) (sym place))
    ∙ unseparated_tokens c.args.bytes.now

pub returns-in-None-clause-tokens : goal.returns-in-None-clause-tokens
returns-in-None-clause-tokens c =
    let found = position_from_yields_List keeps _ _ c.position.result c.position.ensures.ran
    (YieldsList-from_slice c.args.bytes.now cc) (λ x b q k. search (rules, tests)) in
    let place = whole_is keeps c.args.bytes.now (sym found ∙ c.in-None.is) in
    sym (ap tokens_of (drop_of_length-le c.args.bytes.now place)) ∙ unseparated_tokens c.args.bytes.now
