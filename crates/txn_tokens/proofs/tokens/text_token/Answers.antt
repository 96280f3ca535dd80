use Rattle.std.proofs.Common.{rules, tests, ◌∙◌, ◌+◌, ◌-◌, sym, arith, drop, refl, length, ◌≤◌}
use Rattle.std.specs.Prelude.{◌==◌}
use Rattle.std.proofs.lemmas.List.{take_all, length-take, length-take-le}
use Rattle.std.proofs.lemmas.Iterator.{YieldsList-from_slice}
use Rattle.std.proofs.lemmas.Iterator.Search.{position_from_yields_List}
use Rattle.std.proofs.lemmas.Grind.{common_steps}
use Rattle.txn_tokens.proofs.Runs.{place_within}
use Rattle.txn_tokens.proofs.TokenLemmas.{text_open, text_long, text_unprintable, text_good}
use Rattle.txn_tokens.proofs.tokens.text_token.Goals as goal
use Rattle.plain_laws.proofs.Places.{place_is, whole_is}

pub returns-in-None : goal.returns-in-None
returns-in-None c =
    let found = position_from_yields_List (λ b. b == 39) _ _ c.position.result c.position.ensures.ran
    (YieldsList-from_slice c.args.bytes.now cc) (λ x b q k. search (rules, tests)) in
    λ other. text_open c.args.bytes.now (whole_is (λ b. b == 39) c.args.bytes.now (sym found ∙ c.in-None.is))

pub returns-then-text-gt-LONGEST_TEXT : goal.returns-then-text-gt-LONGEST_TEXT
returns-then-text-gt-LONGEST_TEXT c =
    let found = position_from_yields_List (λ b. b == 39) _ _ c.position.result c.position.ensures.ran
    (YieldsList-from_slice c.args.bytes.now cc) (λ x b q k. search (rules, tests)) in
    let e = sym found ∙ c.in-Some.is in
    λ other. text_long c.args.bytes.now c.in-Some.place (place_within (λ b. b == 39) c.args.bytes.now c.in-Some.place e)
    (place_is (λ b. b == 39) c.args.bytes.now c.in-Some.place e)
    (omega (arith, c.if-text-gt-LONGEST_TEXT.true, length-take c.in-Some.place c.args.bytes.now))

pub returns-then-not-is_printable : goal.returns-then-not-is_printable
returns-then-not-is_printable c =
    let found = position_from_yields_List (λ b. b == 39) _ _ c.position.result c.position.ensures.ran
    (YieldsList-from_slice c.args.bytes.now cc) (λ x b q k. search (rules, tests)) in
    let e = sym found ∙ c.in-Some.is in
    λ other. text_unprintable c.args.bytes.now c.in-Some.place
    (place_within (λ b. b == 39) c.args.bytes.now c.in-Some.place e)
    (place_is (λ b. b == 39) c.args.bytes.now c.in-Some.place e)
    (sym c.is_printable.ensures ∙ c.if-not-is_printable.true)

pub returns-in_ok-from_slice-in-Some : goal.returns-in_ok-from_slice-in-Some
returns-in_ok-from_slice-in-Some c =
    let found = position_from_yields_List (λ b. b == 39) _ _ c.position.result c.position.ensures.ran
    (YieldsList-from_slice c.args.bytes.now cc) (λ x b q k. search (rules, tests)) in
    let e = sym found ∙ c.in-Some.is in
    let lt : c.in-Some.place ≤ length c.args.bytes.now =
    omega (arith, place_within (λ b. b == 39) c.args.bytes.now c.in-Some.place e) in
    let good = text_good c.args.bytes.now c.in-Some.place
    (place_within (λ b. b == 39) c.args.bytes.now c.in-Some.place e)
    (place_is (λ b. b == 39) c.args.bytes.now c.in-Some.place e)
    (omega (arith, c.if-text-gt-LONGEST_TEXT.false, length-take-le c.in-Some.place c.args.bytes.now lt))
    (sym c.is_printable.ensures ∙ c.if-not-is_printable.false) in
    let all = take_all (length c.args.bytes.now - (c.in-Some.place + 1)) (drop (c.in-Some.place + 1) c.args.bytes.now)
    (grind (arith, common_steps)) in
    good ∙ rw (c.in_ok-from_slice-in-Some.ensures, all) refl
