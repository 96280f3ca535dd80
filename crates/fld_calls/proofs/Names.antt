-- Names of eight bytes are the same where the numbers that they spell are.
use Rattle.std.proofs.Common.{◌≡◌, ◌∙◌, refl, ap, sym, arith, ℕ, List, Bool, true, false, ◌==◌}
use Rattle.std.proofs.lemmas.Bool.Decides.{nat_tests}
use Rattle.std.specs.Int.{w64, from_be_bytes, to_be_bytes}
use Rattle.std.specs.Cmp.Lexicographic.{bytes_decides}
use Rattle.fp_model.specs.Texts.{same_text}
use Rattle.plain_laws.proofs.Truths.{both_ways}

pub same_numbers : (a b : List ℕ) (m n : ℕ) → to_be_bytes w64 m ≡ a → to_be_bytes w64 n ≡ b
    → m ≡ from_be_bytes w64 a → n ≡ from_be_bytes w64 b → (m == n) ≡ same_text a b
same_numbers a b m n spells_a spells_b of_a of_b = both_ways (m == n) (same_text a b) there back
  where
    there : (m == n) ≡ true → same_text a b ≡ true
    there e =
        let same : m ≡ n = grind (arith, nat_tests) in
        (bytes_decides a b).1 (sym spells_a ∙ ap (to_be_bytes w64) same ∙ spells_b)

    back : same_text a b ≡ true → (m == n) ≡ true
    back e =
        let same : m ≡ n = of_a ∙ ap (from_be_bytes w64) ((bytes_decides a b).0 e) ∙ sym of_b in
        grind (arith, nat_tests)
