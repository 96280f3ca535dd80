-- Texts: when two are the same, without their blanks, and their values as numbers.
use Rattle.std.proofs.Common.{◌*◌, ◌++◌, ◌+◌, ◌∙◌, ◌∷◌, ◌≡◌, ◌≢◌, List, None, Option, Some, [], ap, arith, length, refl, sym, true, ℕ}
use Rattle.std.proofs.Math.Nat.{pow-suc, pow-zero}
use Rattle.std.proofs.lemmas.Bool.Decides.{nat_tests}
use Rattle.std.proofs.lemmas.Cmp.{same_from_slice_cmp}
use Rattle.std.proofs.lemmas.Slice.Eq.{bytes_eq-Decides}
use Rattle.std.specs.Cmp.Lexicographic.{bytes_decides, slice_cmp}
use Rattle.std.specs.Ordering.{is_eq, nat_cmp}
use Rattle.fp_model.specs.Machine.{same_name}
use Rattle.fp_model.specs.Texts.{in_front, same_text, trimmed, value}
use Rattle.fp_model.specs.Values.{◌>>=◌}
use Rattle.fp_model.specs.declared.name.Name.{Name}
use Rattle.plain_laws.proofs.Lists.{length_snoc}
use Rattle.plain_laws.proofs.Truths.{both_ways}

-- a byte in front of a text that has one
pub in_front-some : (b : ℕ) (bs : List ℕ) (c : ℕ) → in_front b (bs ++ c ∷ []) ≡ b ∷ (bs ++ c ∷ [])
in_front-some b [] c = refl
in_front-some b (d ∷ ds) c = refl

-- names that are the same are equal
pub same_names : (a b : Name) → same_name a b ≡ true → a ≡ b
same_names a b same = ap (λ text. record { 0 = text }) ((bytes_decides a.0 b.0).0 same)

-- texts that are the same are equal
pub same_text_is : (a b : List ℕ) → same_text a b ≡ true → a ≡ b
same_text_is a b e = (bytes_decides a b).0 e

-- a step that did not fail
pub some_step : {A B : Type 0} (r : Option A) (f : A → Option B) (y : B) → (r >>= f) ≡ Some y → (x : A) × (r ≡ Some x)
    × (f x ≡ Some y)
some_step None f y e = absurd cc
some_step (Some x) f y e = (x, refl, e)

-- the test looks at no order
pub text-flipped : (a b : List ℕ) → same_text a b ≡ same_text b a
text-flipped a b =
    both_ways (same_text a b) (same_text b a)
    (λ same. (bytes_decides b a).1 (sym ((bytes_decides a b).0 same)))
    (λ same. (bytes_decides a b).1 (sym ((bytes_decides b a).0 same)))

-- a text is the same as itself
pub text_is_same : (a : List ℕ) → same_text a a ≡ true
text_is_same a = (bytes_eq-Decides a a).1 refl

-- the comparison of two texts tests it
pub text_test : (a b : List ℕ) → is_eq (slice_cmp nat_cmp a b) ≡ same_text a b
text_test a b = same_from_slice_cmp nat_cmp is_eq same_text refl (λ _ _. refl) (λ _ _. refl)
    (λ x y xs ys o h. grind (arith, nat_tests)) a b _ refl

-- a blank behind a text goes
pub trimmed-blank : (text : List ℕ) → trimmed (text ++ 32 ∷ []) ≡ trimmed text
trimmed-blank [] = refl
trimmed-blank (b ∷ bs) = ap (in_front b) (trimmed-blank bs)

-- another byte stays, with all in front of it
pub trimmed-other : (text : List ℕ) (b : ℕ) → b ≢ 32 → trimmed (text ++ b ∷ []) ≡ text ++ b ∷ []
trimmed-other [] b apart = grind (arith, nat_tests)
trimmed-other (c ∷ cs) b apart = ap (in_front c) (trimmed-other cs b apart) ∙ in_front-some c cs b

-- one digit more
pub value_snoc : (xs : List ℕ) (d : ℕ) → value 10 (xs ++ d ∷ []) ≡ value 10 xs * 10 + d
value_snoc [] d = rw (pow-zero 10) (omega arith)
value_snoc (x ∷ xs) d = rw (value_snoc xs d, length_snoc xs d, pow-suc 10 (length xs)) (grind arith)
