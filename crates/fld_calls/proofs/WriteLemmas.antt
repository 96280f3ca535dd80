-- Writing a list from the front.
use Rattle.std.proofs.Common.{◌≡◌, refl, sym, ap, ◌∙◌, arith, append_assoc, ℕ, suc, ◌+◌, ◌<◌, List, [], ◌∷◌, ◌++◌, length, drop, get_or, false, ◌==◌, if◌then◌else◌, drop-cons}
use Rattle.std.proofs.lemmas.Bool.Decides.{nat_tests}
use Rattle.fp_model.specs.Fsas.{Fsa, fsa_text, list_text}

-- an argument, its connector, and the others
one_more : (a : Fsa) (others : List Fsa) → list_text (a ∷ others) ≡ fsa_text a ++
    (if length others == 0 then 32 else 42) ∷ list_text others
one_more a [] = refl
one_more a (b ∷ others) = rw (some (length others)) refl
  where
    some : (n : ℕ) → (suc n == 0) ≡ false
    some n = grind (arith, nat_tests)

pub text-step : (text : List ℕ) (a : Fsa) (others : List Fsa) (left : ℕ) → length others ≡ left
    → (text ++ fsa_text a ++ (if left == 0 then 32 else 42) ∷ []) ++ list_text others ≡ text ++ list_text (a ∷ others)
text-step text a others left is =
    let connector : ℕ = if left == 0 then 32 else 42 in
    let more : list_text (a ∷ others) ≡ fsa_text a ++ connector ∷ list_text others =
    one_more a others ∙ ap (λ (n : ℕ). fsa_text a ++ (if n == 0 then 32 else 42) ∷ list_text others) is in
    append_assoc (text ++ fsa_text a) (connector ∷ []) (list_text others)
    ∙ append_assoc text (fsa_text a) (connector ∷ list_text others)
    ∙ ap (λ (xs : List ℕ). text ++ xs) (sym more)
