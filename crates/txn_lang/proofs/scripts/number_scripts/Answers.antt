use Rattle.std.proofs.Common.{◌≡◌, ◌∙◌, [], ◌+◌, List, sym, ap, length, take, drop, arith, Some}
use Rattle.std.proofs.lemmas.List.{length-take}
use Rattle.std.proofs.lemmas.Result.{err_from_is_err_and}
use Rattle.std.proofs.lemmas.Grind.{common_steps}
use Rattle.fp_model.specs.declared.scripts.Script.{Script}
use Rattle.txn_lang.specs.Grammar.{scripts_fault}
use Rattle.txn_lang.specs.Numbers.{place_of}
use Rattle.txn_lang.proofs.NumberLemmas.{seen_is, indexes_more, fault_more, fault_here, fault_nothing, no_memory, front_at, rest_at}
use Rattle.txn_lang.proofs.scripts.number_scripts.Goals as goal

pub returns-in_err-check_script-clause-err : goal.returns-in_err-check_script-clause-err
returns-in_err-check_script-clause-err c =
    let p = err_from_is_err_and c.from_residual.result c.from_residual.ensures.1 in
    let xs = c.args.scripts.now in
    let i = c.loop-place.place in
    let s = c.index-scripts-place.result in
    let e = c.in_err-check_script.field-0.0 in
    let here = sym (seen_is c.loop-place.numbers (take i xs) s c.loop-place.invariant.indexed) ∙
    c.in_err-check_script.ensures.err in
    let is : scripts_fault [] xs ≡ Some e =
    sym c.loop-place.invariant.fair ∙ ap (scripts_fault (take i xs))
    (rest_at xs i s c.loop-place-test.true c.index-scripts-place.is) ∙ fault_here (take i xs) s (drop (i + 1) xs) e
    here in
    rw (p.1, p.2) (no_memory e (scripts_fault [] xs ≡ Some e) is)

pub loop-place-preserved : goal.loop-place-preserved
loop-place-preserved c =
    let xs = c.args.scripts.now in
    let i = c.loop-place.place in
    let s = c.index-scripts-place.result in
    let front = front_at xs i s c.loop-place-test.true c.index-scripts-place.is in
    let rest = rest_at xs i s c.loop-place-test.true c.index-scripts-place.is in
    let at : i ≡ length (take i xs) = omega (arith, length-take i xs, c.loop-place-test.true) in
    let here = sym (seen_is c.loop-place.numbers (take i xs) s c.loop-place.invariant.indexed) ∙
    c.in_ok-check_script.ensures.ok in
    record {
      indexed = λ name. indexes_more c.loop-place.numbers c.insert.new.self (take i xs) s i at
          c.loop-place.invariant.indexed c.in_ok-check_script.ensures.ok (λ q. c.in_ok-insert.ensures.updates.0 q) name
          ∙ ap (λ (all : List Script). place_of all name) (sym front);
      fair = ap (λ (all : List Script). scripts_fault all (drop (i + 1) xs)) front ∙ sym
          (fault_more (take i xs) s (drop (i + 1) xs) here) ∙ ap (scripts_fault (take i xs)) (sym rest) ∙
          c.loop-place.invariant.fair;
    }

pub returns-clause-fair : goal.returns-clause-fair
returns-clause-fair c =
    let none : drop c.loop-place.place c.args.scripts.now ≡ [] = grind (arith, common_steps, c.loop-place-test.false) in
    sym c.loop-place.invariant.fair ∙ fault_nothing (take c.loop-place.place c.args.scripts.now)
    (drop c.loop-place.place c.args.scripts.now) none
