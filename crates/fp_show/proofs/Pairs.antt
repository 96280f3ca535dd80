-- Loops over what is left of lists: definitions beside states, and elements that are numbered.
use Rattle.std.proofs.Common.{◌≡◌, ℕ, zero, suc, ◌≤◌, List, [], ◌∷◌, length, drop, refl, ap, ◌∙◌, arith}
use Rattle.std.specs.Prelude.{min}
use Rattle.std.proofs.lemmas.List.{drop_all}
use Rattle.fp_show.specs.DbText.{each_text}

-- behind the end of one of the two nothing is left
module _ {D S : Type 0} (text : D → S → List ℕ) where
  no_states : (defs : List D) → each_text text defs [] ≡ []
  no_states [] = refl
  no_states (def ∷ defs) = refl

  pub each_done : (defs : List D) (states : List S) (i : ℕ) → min (length defs) (length states) ≤ i
      → each_text text (drop i defs) (drop i states) ≡ []
  each_done [] states i past =
      ap (λ (ds : List D). each_text text ds (drop i states)) (drop_all i [] (omega arith))
  each_done (d ∷ ds) [] i past =
      ap (λ (ss : List S). each_text text (drop i (d ∷ ds)) ss) (drop_all i [] (omega arith))
      ∙ no_states (drop i (d ∷ ds))
  each_done (d ∷ ds) (s ∷ ss) zero past = absurd (omega (arith, past))
  each_done (d ∷ ds) (s ∷ ss) (suc i) past = each_done ds ss i (omega (arith, past))
