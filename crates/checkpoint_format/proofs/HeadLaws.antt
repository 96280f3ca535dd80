-- The letters and numbers at the head of a checkpoint, both ways.
use Rattle.std.proofs.Common.{◌≡◌, ◌⊎◌, inl, inr, ℕ, ◌+◌, ◌-◌, ◌^◌, ◌<◌, ◌≤◌, Bool, true, false, ◌&&◌, ◌||◌, List, [], ◌∷◌, ◌++◌, Some, refl, sym, ap, subst, ◌∙◌, append_assoc, arith}
use Rattle.std.specs.Prelude.{◌==◌, codes, nat_le}
use Rattle.std.proofs.lemmas.Bool.{eqb-true, and_from, and_parts}
use Rattle.std.proofs.lemmas.Bool.Decides.{nat_tests}
use Rattle.std.proofs.lemmas.Slice.Eq.{bytes_eq-Decides}
use Rattle.fp_model.specs.LogText.{IsBytes, of_format}
use Rattle.fp_model.specs.Spellings.{be64}
use Rattle.fp_model.specs.Texts.{same_text}
use Rattle.log_format.specs.Laws.{Takes}
use Rattle.log_format.specs.Reading.{part_at}
use Rattle.log_format.proofs.Fields.{law8, law64, next, part_again, part_takes, then as joins}
use Rattle.checkpoint_format.specs.Reading.{head_at, letters_at, place_at, placed}
use Rattle.checkpoint_format.proofs.DatabaseLaws.{passed}
use Rattle.model_laws.proofs.Texts.{some_step}
use Rattle.std.proofs.lemmas.Option.{same_Some}

abbrev pub letters : List ℕ
letters = codes "IMSFPCK"

-- ---- again

pub letters_again_1 : (rest : List ℕ) → letters_at (of_format letters 1 ++ rest) ≡ Some (1, rest)
unfolding letters_at
letters_again_1 rest = ap letters_at (append_assoc letters (49 ∷ []) rest) ∙ rw
    (part_again letters (49 ∷ rest) 7 refl) refl

pub letters_again_2 : (rest : List ℕ) → letters_at (of_format letters 2 ++ rest) ≡ Some (2, rest)
unfolding letters_at
letters_again_2 rest = ap letters_at (append_assoc letters (50 ∷ []) rest) ∙ rw
    (part_again letters (50 ∷ rest) 7 refl) refl

pub letters_again : (format : ℕ) (rest : List ℕ) → (format ≡ 1) ⊎ (format ≡ 2)
    → letters_at (of_format letters format ++ rest) ≡ Some (format, rest)
letters_again format rest (inl one) =
    subst (λ f. letters_at (of_format letters f ++ rest) ≡ Some (f, rest)) (sym one) (letters_again_1 rest)
letters_again format rest (inr two) =
    subst (λ f. letters_at (of_format letters f ++ rest) ≡ Some (f, rest)) (sym two) (letters_again_2 rest)

pub head_again : (format number : ℕ) (rest : List ℕ) → (format ≡ 1) ⊎ (format ≡ 2) → number < 2 ^ 64
    → head_at (of_format letters format ++ (be64 number ++ rest)) ≡ Some ((format, number), rest)
unfolding head_at
head_again format number rest is fits = rw (
  letters_again format (be64 number ++ rest) is,
  law64.again number rest fits,
) refl

pub placed_is : (at count : ℕ) → at ≤ 2 ^ 62 → count ≤ at → placed at count ≡ true
placed_is at count low fewer = and_from (nat_le at (2 ^ 62)) (nat_le count at) (grind (arith, nat_tests)) (grind (
  arith,
  nat_tests,
))

pub place_again : (at count : ℕ) (rest : List ℕ) → at ≤ 2 ^ 62 → count ≤ at
    → place_at (be64 at ++ (be64 count ++ rest)) ≡ Some ((at, count), rest)
unfolding place_at
place_again at count rest low fewer = rw (
  law64.again at (be64 count ++ rest) (omega (arith, low)),
  law64.again count rest (omega (arith, low, fewer)),
  placed_is at count low fewer,
) refl

-- ---- takes

is_digit : (b : ℕ) → (b == 49 || b == 50) ≡ true → (b ≡ 49) ⊎ (b ≡ 50)
is_digit b e = by (b == 49) refl
  where
    by : (t : Bool) → (b == 49) ≡ t → (b ≡ 49) ⊎ (b ≡ 50)
    by true is = inl (eqb-true _ _ is)
    by false is = inr (eqb-true _ _ (sym (ap (λ t. t || b == 50) is) ∙ e))

pub letters_takes : (bytes : List ℕ) (x : ℕ × List ℕ) → IsBytes bytes → letters_at bytes ≡ Some x
    → Takes bytes (of_format letters x.0) x.1 × ((x.0 ≡ 1) ⊎ (x.0 ≡ 2))
unfolding letters_at
letters_takes bytes x fits e =
    let a = some_step (part_at 7 bytes) _ x e in
    let p = part_takes 7 bytes a.0 fits a.1 in
    let b = next law8 a.0.1 _ x p.0.rest_fits a.2 in
    let made : ℕ × List ℕ = (b.0.0 - 48, b.0.1) in
    let c = passed (same_text a.0.0 letters && (b.0.0 == 49 || b.0.0 == 50)) made x b.3 in
    let q = and_parts (same_text a.0.0 letters) (b.0.0 == 49 || b.0.0 == 50) c.0 in
    let same : a.0.0 ≡ letters = (bytes_eq-Decides a.0.0 letters).0 q.0 in
    let t = joins bytes a.0.0 a.0.1 (b.0.0 ∷ []) b.0.1 p.0 b.1 in
    let digit = is_digit b.0.0 q.1 in
    subst (λ (y : ℕ × List ℕ). Takes bytes (of_format letters y.0) y.1 × ((y.0 ≡ 1) ⊎ (y.0 ≡ 2))) c.1 (
      record {
        parts = t.parts ∙ ap (λ l. (l ++ b.0.0 ∷ []) ++ b.0.1) same
            ∙ ap (λ n. (letters ++ n ∷ []) ++ b.0.1) (back b.0.0 digit);
        rest_fits = t.rest_fits;
      },
      low b.0.0 digit,
    )
  where
    back : (b : ℕ) → (b ≡ 49) ⊎ (b ≡ 50) → b ≡ 48 + (b - 48)
    back b (inl is) = omega (arith, is)
    back b (inr is) = omega (arith, is)

    low : (b : ℕ) → (b ≡ 49) ⊎ (b ≡ 50) → (b - 48 ≡ 1) ⊎ (b - 48 ≡ 2)
    low b (inl is) = inl (omega (arith, is))
    low b (inr is) = inr (omega (arith, is))

pub head_takes : (bytes : List ℕ) (x : (ℕ × ℕ) × List ℕ) → IsBytes bytes → head_at bytes ≡ Some x
    → Takes bytes (of_format letters x.0.0 ++ be64 x.0.1) x.1 × ((x.0.0 ≡ 1) ⊎ (x.0.0 ≡ 2)) × (x.0.1 < 2 ^ 64)
unfolding head_at
head_takes bytes x fits e =
    let a = some_step (letters_at bytes) _ x e in
    let p = letters_takes bytes a.0 fits a.1 in
    let b = next law64 a.0.1 _ x p.0.rest_fits a.2 in
    let made : (ℕ × ℕ) × List ℕ = ((a.0.0, b.0.0), b.0.1) in
    subst (λ (y : (ℕ × ℕ) × List ℕ). Takes bytes (of_format letters y.0.0 ++ be64 y.0.1) y.1
    × ((y.0.0 ≡ 1) ⊎ (y.0.0 ≡ 2)) × (y.0.1 < 2 ^ 64)) (same_Some made x b.3)
    (joins bytes (of_format letters a.0.0) a.0.1 (be64 b.0.0) b.0.1 p.0 b.1, p.1, b.2)

pub place_takes : (bytes : List ℕ) (x : (ℕ × ℕ) × List ℕ) → IsBytes bytes → place_at bytes ≡ Some x
    → Takes bytes (be64 x.0.0 ++ be64 x.0.1) x.1 × (x.0.0 ≤ 2 ^ 62) × (x.0.1 ≤ x.0.0)
unfolding place_at
place_takes bytes x fits e =
    let a = next law64 bytes _ x fits e in
    let b = next law64 a.0.1 _ x a.1.rest_fits a.3 in
    let made : (ℕ × ℕ) × List ℕ = ((a.0.0, b.0.0), b.0.1) in
    let c = passed (placed a.0.0 b.0.0) made x b.3 in
    let q = and_parts (nat_le a.0.0 (2 ^ 62)) (nat_le b.0.0 a.0.0) c.0 in
    subst (λ (y : (ℕ × ℕ) × List ℕ). Takes bytes (be64 y.0.0 ++ be64 y.0.1) y.1 × (y.0.0 ≤ 2 ^ 62) × (y.0.1 ≤ y.0.0))
    c.1 (
      joins bytes (be64 a.0.0) a.0.1 (be64 b.0.0) b.0.1 a.1 b.1,
      grind (arith, nat_tests),
      grind (arith, nat_tests),
    )
