use Rattle.std.proofs.Common.{rules, tests, ◌∙◌, sym, arith, not}
use Rattle.std.proofs.lemmas.List.{take_all}
use Rattle.std.proofs.lemmas.Iterator.{YieldsList-from_slice}
use Rattle.std.proofs.lemmas.Iterator.Search.{position_from_yields_List}
use Rattle.std.proofs.lemmas.Grind.{common_steps}
use Rattle.fp_model.specs.Messages.{is_separator}
use Rattle.txn_tokens.proofs.Runs.{behind_is, behind_none}
use Rattle.txn_tokens.proofs.tokens.unblanked.Goals as goal
use Rattle.plain_laws.proofs.Places.{place_is, whole_is}

pub returns-in-Some : goal.returns-in-Some
returns-in-Some c =
    let found = position_from_yields_List (λ b. not (is_separator b)) _ _ c.position.result c.position.ensures.ran
    (YieldsList-from_slice c.args.bytes.now cc) (λ x b q k. search (rules, tests)) in
    let place = place_is (λ b. not (is_separator b)) c.args.bytes.now c.in-Some.place (sym found ∙ c.in-Some.is) in
    record {
      exact = take_all _ _ (grind (arith, common_steps)) ∙ sym
          (behind_is is_separator c.args.bytes.now c.in-Some.place place);
    }

pub returns-in-None : goal.returns-in-None
returns-in-None c =
    let found = position_from_yields_List (λ b. not (is_separator b)) _ _ c.position.result c.position.ensures.ran
    (YieldsList-from_slice c.args.bytes.now cc) (λ x b q k. search (rules, tests)) in
    let place = whole_is (λ b. not (is_separator b)) c.args.bytes.now (sym found ∙ c.in-None.is) in
    record { exact = sym (behind_none is_separator c.args.bytes.now place) }
