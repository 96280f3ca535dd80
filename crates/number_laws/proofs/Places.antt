-- Entries with one more at the end: which stands where.
use Rattle.std.proofs.Common.{◌≡◌, ◌⊎◌, inl, inr, refl, sym, ap, ◌∙◌, arith, ℕ, zero, suc, ◌<◌, List, [], ◌∷◌, ◌++◌, length, take}
use Rattle.std.specs.Prelude.{Option, Some, None, slice_get}
use Rattle.std.proofs.lemmas.List.{take-append-le, length-append}
use Rattle.std.proofs.lemmas.Option.{slice_get_within}

module _ {X : Type 0} where
  get_front : (xs : List X) (x : X) (i : ℕ) → i < length xs → slice_get (xs ++ x ∷ []) i ≡ slice_get xs i
  get_front [] x i lt = absurd (omega (arith, lt))
  get_front (y ∷ xs) x zero lt = refl
  get_front (y ∷ xs) x (suc i) lt = get_front xs x i (omega (arith, lt))

  pub get_last : (xs : List X) (x : X) → slice_get (xs ++ x ∷ []) (length xs) ≡ Some x
  get_last [] x = refl
  get_last (y ∷ xs) x = get_last xs x

  pub take_front : (xs : List X) (x : X) (i : ℕ) → i < length xs → take i (xs ++ x ∷ []) ≡ take i xs
  take_front xs x i lt = take-append-le i xs (x ∷ []) (omega (arith, lt))

  pub take_last : (xs : List X) (x : X) → take (length xs) (xs ++ x ∷ []) ≡ xs
  take_last [] x = refl
  take_last (y ∷ xs) x = ap (λ (l : List X). y ∷ l) (take_last xs x)

  -- an element stands where it stood, or it is the new one at the end
  pub data StandsIn (xs : List X) (x : X) (i : ℕ) (y : X) : Type 0 where
    before : i < length xs → slice_get xs i ≡ Some y → StandsIn xs x i y
    at_end : i ≡ length xs → y ≡ x → StandsIn xs x i y

  some_is : (a b : X) → Some a ≡ Some b → b ≡ a
  some_is a b e = cc

  pub stands_in : (xs : List X) (x : X) (i : ℕ) (y : X) → slice_get (xs ++ x ∷ []) i ≡ Some y → StandsIn xs x i y
  stands_in xs x i y is = by (lt_or (length xs) i)
    where
      lt_or : (n i : ℕ) → (i < n) ⊎ ((i ≡ n) ⊎ (n < i))
      lt_or zero zero = inr (inl refl)
      lt_or zero (suc i) = inr (inr (omega arith))
      lt_or (suc n) zero = inl (omega arith)
      lt_or (suc n) (suc i) = up (lt_or n i)
        where
          up : (i < n) ⊎ ((i ≡ n) ⊎ (n < i)) → (suc i < suc n) ⊎ ((suc i ≡ suc n) ⊎ (suc n < suc i))
          up (inl lt) = inl (omega (arith, lt))
          up (inr (inl e)) = inr (inl (ap suc e))
          up (inr (inr gt)) = inr (inr (omega (arith, gt)))

      by : (i < length xs) ⊎ ((i ≡ length xs) ⊎ (length xs < i)) → StandsIn xs x i y
      by (inl lt) = before lt (sym (get_front xs x i lt) ∙ is)
      by (inr (inl e)) =
          at_end e (some_is x y (sym (get_last xs x) ∙ ap (slice_get (xs ++ x ∷ [])) (sym e) ∙ is))
      by (inr (inr gt)) =
          absurd (omega (arith, gt, slice_get_within (xs ++ x ∷ []) i y is, length-append xs (x ∷ [])))

  pub stands_before : (xs : List X) (x : X) (i : ℕ) (y : X) → slice_get xs i ≡ Some y
      → slice_get (xs ++ x ∷ []) i ≡ Some y
  stands_before xs x i y is = get_front xs x i (slice_get_within xs i y is) ∙ is
