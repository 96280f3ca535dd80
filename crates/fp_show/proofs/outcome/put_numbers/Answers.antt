use Rattle.std.proofs.Common.{◌-◌, ◌++◌, ◌∷◌, ◌∙◌, List, ℕ, length, take, drop, ap}
use Rattle.std.specs.Prelude.{flat_map}
use Rattle.std.specs.Fmt.{decimal}
use Rattle.std.proofs.lemmas.Result.{on_ok_weaker}
use Rattle.fp_show.proofs.Pieces.{joined_all}
use Rattle.fp_show.proofs.outcome.put_numbers.Goals as goal

-- the first number, and the others behind commas
pub returns-in_ok-put_decimal-in-len1-up : goal.returns-in_ok-put_decimal-in-len1-up
returns-in_ok-put_decimal-in-len1-up c =
    let numbers = c.args.numbers.now in
    let others : List ℕ = flat_map (λ n. 44 ∷ decimal n) (take (length numbers - 1) (drop 1 numbers)) in
    on_ok_weaker c.put_numbers_behind.result
    (λ is. is
    ∙ ap (λ (text : List ℕ). text ++ others) c.in_ok-put_decimal-in-len1-up.ensures
    ∙ joined_all decimal 44 c.args.into.now numbers 0 c.in-len1-up.len_at_least)
    c.put_numbers_behind.ensures
