-- A part of a list by its place and length, and a list with a part changed.
use Rattle.std.proofs.Common.{◌≡◌, ℕ, zero, suc, ◌+◌, ◌<◌, ◌≤◌, List, [], ◌∷◌, ◌++◌, map, length, take, drop, Option, Some, None, refl, sym, ◌∙◌, ap, slice_get, arith, length-append, length-drop}
use Rattle.std.specs.Prelude.{option_map}
use Rattle.std.proofs.lemmas.List.{length-take, length-map}
use Rattle.plain_laws.proofs.Lists.{drop_nil}
use Rattle.std.proofs.lemmas.Option.{none-some, same_Some}

-- ---- elements at a place

-- ---- parts

module _ {X Y : Type 0} (c : X → Y) where
  front_mapped : (n : ℕ) (xs : List X) (ys : List Y)
      → ((k : ℕ) → k < n → slice_get ys k ≡ option_map c (slice_get xs k)) → take n ys ≡ map c (take n xs)
  front_mapped zero xs ys h = refl
  front_mapped (suc n) [] [] h = refl
  front_mapped (suc n) [] (y ∷ ys) h = absurd (none-some y (sym (h 0 (omega arith))))
  front_mapped (suc n) (x ∷ xs) [] h = absurd (none-some (c x) (h 0 (omega arith)))
  front_mapped (suc n) (x ∷ xs) (y ∷ ys) h =
      let rest = front_mapped n xs ys (λ k low. h (suc k) (omega (arith, low))) in
      ap (λ (z : Y). z ∷ take n ys) (same_Some y (c x) (h 0 (omega arith))) ∙ ap (λ (zs : List Y). c x ∷ zs) rest

  -- a part whose elements are the images of those of another list
  pub part_mapped : (n first : ℕ) (xs : List X) (ys : List Y)
      → ((k : ℕ) → first ≤ k → k < first + n → slice_get ys k ≡ option_map c (slice_get xs k))
      → take n (drop first ys) ≡ map c (take n (drop first xs))
  part_mapped n zero xs ys h = front_mapped n xs ys (λ k low. h k (omega arith) (omega (arith, low)))
  part_mapped n (suc first) [] [] h = front_mapped n [] [] (λ k low. refl)
  part_mapped n (suc first) [] (y ∷ ys) h =
      part_mapped n first [] ys (λ k low high. h (suc k) (omega (arith, low)) (omega (arith, high))) ∙ ap
      (λ (zs : List X). map c (take n zs)) (drop_nil first)
  part_mapped n (suc first) (x ∷ xs) [] h =
      sym (ap (λ (zs : List Y). take n zs) (drop_nil first)) ∙ part_mapped n first xs []
      (λ k low high. h (suc k) (omega (arith, low)) (omega (arith, high)))
  part_mapped n (suc first) (x ∷ xs) (y ∷ ys) h = part_mapped n first xs ys
      (λ k low high. h (suc k) (omega (arith, low)) (omega (arith, high)))

same_mapped : {X : Type 0} (xs : List X) → map (λ x. x) xs ≡ xs
same_mapped [] = refl
same_mapped (x ∷ xs) = ap (λ ys. x ∷ ys) (same_mapped xs)

same_option : {X : Type 0} (o : Option X) → o ≡ option_map (λ x. x) o
same_option None = refl
same_option (Some x) = refl

-- a part with the same elements
pub part_same : {X : Type 0} (n first : ℕ) (xs ys : List X)
    → ((k : ℕ) → first ≤ k → k < first + n → slice_get ys k ≡ slice_get xs k)
    → take n (drop first ys) ≡ take n (drop first xs)
part_same n first xs ys h = part_mapped (λ x. x) n first xs ys
    (λ k low high. h k low high ∙ same_option (slice_get xs k)) ∙ same_mapped (take n (drop first xs))

-- ---- a list with a part changed

-- an element inside
pub get_inside : {X : Type 0} (first n end : ℕ) (change : X → X) (xs : List X) (a : ℕ) → end ≡ first + n → first ≤ a
    → a < end
    → slice_get (take first xs ++ map change (take n (drop first xs)) ++ drop end xs) a ≡ option_map change
    (slice_get xs a)
get_inside {X} zero n end change xs a is low high = among n end xs a (omega (arith, is)) high
  where
    among : (n end : ℕ) (xs : List X) (a : ℕ) → end ≡ n → a < end
        → slice_get (map change (take n xs) ++ drop end xs) a ≡ option_map change (slice_get xs a)
    among n zero xs a is less = absurd (omega (arith, less))
    among zero (suc end) xs a is less = absurd (omega (arith, is))
    among (suc n) (suc end) [] a is less = refl
    among (suc n) (suc end) (x ∷ xs) zero is less = refl
    among (suc n) (suc end) (x ∷ xs) (suc a) is less = among n end xs a (omega (arith, is)) (omega (arith, less))
get_inside (suc first) n zero change xs a is low high = absurd (omega (arith, is))
get_inside (suc first) zero (suc end) change [] a is low high = refl
get_inside (suc first) (suc n) (suc end) change [] a is low high = refl
get_inside (suc first) n (suc end) change (x ∷ xs) zero is low high = absurd (omega (arith, low))
get_inside (suc first) n (suc end) change (x ∷ xs) (suc a) is low high =
    get_inside first n end change xs a (omega (arith, is)) (omega (arith, low)) (omega (arith, high))

-- the length
pub length_changed : {X : Type 0} (first n end : ℕ) (change : X → X) (xs : List X) → end ≡ first + n
    → length (take first xs ++ map change (take n (drop first xs)) ++ drop end xs) ≡ length xs
length_changed first n end change xs is =
    let a = length-append (take first xs) (map change (take n (drop first xs))) in
    let b = length-append (take first xs ++ map change (take n (drop first xs))) (drop end xs) in
    let c = length-map (take n (drop first xs)) change in
    let d = length-take first xs in
    let e = length-take n (drop first xs) in
    let f = length-drop first xs in
    let g = length-drop end xs in
    omega (arith, a, b, c, d, e, f, g, is)
