-- Lists: parts from a place on, elements of two lists one behind another, and a change of some elements in a row.
use Rattle.std.proofs.Common.{◌≡◌, ℕ, zero, suc, ◌+◌, ◌-◌, ◌<◌, ◌≤◌, List, [], ◌∷◌, ◌++◌, map, length, take, drop, get_or, replicate, Some, refl, sym, ◌∙◌, ap, slice_get, slice_set, arith, add-one, inr}
use Rattle.std.specs.Prelude.{OnOk, Result, Ok, Err}
use Rattle.std.proofs.Math.Seq.{drop-cons}
use Rattle.std.specs.List.{AllByRecursion}
use Rattle.plain_laws.proofs.Places.{get_outside}
use Rattle.std.proofs.lemmas.Option.{none-some, same_Some}

pub drop_more : {X : Type 0} (xs : List X) (i : ℕ) (d : X) → i < length xs → drop i xs ≡ get_or xs i d ∷ drop (i + 1) xs
drop_more xs i d less = drop-cons xs i d less ∙ ap (λ (n : ℕ). get_or xs i d ∷ drop n xs) (sym (add-one i))

-- ---- two lists

pub get_right : {X : Type 0} (xs ys : List X) (k n : ℕ) → n ≡ length xs → n ≤ k
    → slice_get (xs ++ ys) k ≡ slice_get ys (k - n)
get_right [] ys k n is le = ap (slice_get ys) (omega (arith, is))
get_right (x ∷ xs) ys zero n is le = absurd (omega (arith, is, le))
get_right (x ∷ xs) ys (suc k) n is le =
    get_right xs ys k (n - 1) (omega (arith, is)) (omega (arith, is, le))
    ∙ ap (slice_get ys) (omega (arith, is, le))

-- ---- elements

pub all_at : {X : Type 0} (P : X → Type 0) (xs : List X) (i : ℕ) (d : X) → AllByRecursion P xs → i < length xs
    → P (get_or xs i d)
all_at P [] i d all less = absurd (omega (arith, less))
all_at P (x ∷ xs) zero d all less = all.0
all_at P (x ∷ xs) (suc i) d all less = all_at P xs i d all.1 (omega (arith, less))

pub map_more : {X Y : Type 0} (f : X → Y) (xs : List X) (i : ℕ) (d : X) → i < length xs
    → map f (take (i + 1) xs) ≡ map f (take i xs) ++ f (get_or xs i d) ∷ []
map_more f [] i d less = absurd (omega (arith, less))
map_more f (x ∷ xs) zero d less = refl
map_more {X} {Y} f (x ∷ xs) (suc i) d less =
    ap (λ (n : ℕ). map f (take n (x ∷ xs))) (one_more i) ∙ ap (λ (ys : List Y). f x ∷ ys)
    (map_more f xs i d (omega (arith, less)))
  where
    one_more : (i : ℕ) → suc i + 1 ≡ suc (i + 1)
    one_more i = omega arith

pub replicate_more : {X : Type 0} (m n : ℕ) (x : X) → replicate (m + n) x ≡ replicate m x ++ replicate n x
replicate_more zero n x = ap (λ (k : ℕ). replicate k x) (none n)
  where
    none : (n : ℕ) → 0 + n ≡ n
    none n = omega arith
replicate_more {X} (suc m) n x =
    ap (λ (k : ℕ). replicate k x) (one_more m n) ∙ ap (λ (ys : List X). x ∷ ys) (replicate_more m n x)
  where
    one_more : (m n : ℕ) → suc m + n ≡ suc (m + n)
    one_more m n = omega arith

-- ---- answers that may be want of memory

pub on_ok : {A E : Type 0} (r : Result A E) {P Q : Type 0} → (P → Q) → OnOk r P → OnOk r Q
on_ok (Ok a) f p = f p
on_ok (Err e) f p = p

-- ---- some elements in a row changed

module _ {X : Type 0} (change : X → X) where
  -- those from one on, up to an end
  abbrev pub changed_to : ℕ → ℕ → ℕ → List X → List X
  changed_to first n end xs = take first xs ++ map change (take n (drop first xs)) ++ drop end xs

  pub none_changed : (first : ℕ) (xs : List X) → changed_to first 0 first xs ≡ xs
  none_changed zero xs = refl
  none_changed (suc first) [] = refl
  none_changed (suc first) (x ∷ xs) = ap (λ (ys : List X). x ∷ ys) (none_changed first xs)

  pub all_changed : (n : ℕ) (xs : List X) → length xs ≤ n → changed_to 0 n n xs ≡ map change xs
  all_changed zero [] le = refl
  all_changed zero (x ∷ xs) le = absurd (omega (arith, le))
  all_changed (suc n) [] le = refl
  all_changed (suc n) (x ∷ xs) le = ap (λ (ys : List X). change x ∷ ys) (all_changed n xs (omega (arith, le)))

  -- the next of them
  pub next_changed : (first n end : ℕ) (xs : List X) (x : X) → end ≡ first + n → slice_get xs end ≡ Some x
      → changed_to first (suc n) (suc end) xs ≡ slice_set (changed_to first n end xs) end (change x)
  next_changed first n end [] x is at = absurd (none-some x at)
  next_changed zero zero zero (y ∷ ys) x is at = ap (λ (z : X). change z ∷ ys) (same_Some y x at)
  next_changed zero zero (suc end) (y ∷ ys) x is at = absurd (omega (arith, is))
  next_changed zero (suc n) zero (y ∷ ys) x is at = absurd (omega (arith, is))
  next_changed zero (suc n) (suc end) (y ∷ ys) x is at =
      ap (λ (zs : List X). change y ∷ zs) (next_changed zero n end ys x (omega (arith, is)) at)
  next_changed (suc first) n zero (y ∷ ys) x is at = absurd (omega (arith, is))
  next_changed (suc first) n (suc end) (y ∷ ys) x is at =
      ap (λ (zs : List X). y ∷ zs) (next_changed first n end ys x (omega (arith, is)) at)

  -- the next of a walk over them
  module _ (first n end m e : ℕ) (old now : List X) (x : X) (is : end ≡ first + n) (m_is : m ≡ suc n) (e_is : e ≡ suc end)
      (so_far : now ≡ changed_to first n end old) (at : slice_get now end ≡ Some x) where
    pub as_it_was : slice_get old end ≡ Some x
    as_it_was =
        sym (get_outside first n end change old end is (inr (omega arith)))
        ∙ ap (λ (zs : List X). slice_get zs end) (sym so_far) ∙ at

    pub one_further : (y : X) → y ≡ change x → slice_set now end y ≡ changed_to first m e old
    one_further y y_is =
        ap (λ (z : X). slice_set now end z) y_is ∙ ap (λ (zs : List X). slice_set zs end (change x)) so_far
        ∙ sym (next_changed first n end old x is as_it_was)
        ∙ ap (λ (k : ℕ). changed_to first k (suc end) old) (sym m_is)
        ∙ ap (λ (k : ℕ). changed_to first m k old) (sym e_is)
