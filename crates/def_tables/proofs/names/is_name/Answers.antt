use Rattle.std.proofs.Common.{rules, tests, arith}
use Rattle.std.proofs.lemmas.Iterator.{YieldsList-from_slice}
use Rattle.std.proofs.lemmas.Iterator.Search.{all_from_yields_List}
use Rattle.std.proofs.lemmas.Bool.Decides.{nat_tests}
use Rattle.fp_model.specs.Names.{is_letter_or_digit}
use Rattle.def_tables.proofs.names.is_name.Goals as goal

pub returns-then-matches : goal.returns-then-matches
returns-then-matches c =
    let all = all_from_yields_List is_letter_or_digit _ _ c.all.result c.all.ensures.ran
    (YieldsList-from_slice c.args.text.now cc) (λ x b q k. search (rules, tests)) in
    grind (arith, nat_tests)
