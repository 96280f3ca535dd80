-- Segments sorted by their keys, which differ, are those that are put one after another, each at its place.
use denote.Param.Members.{Mut}
use denote.Ref.{Bor}
use Rattle.std.proofs.Common.{Ordering, ◌≡◌, refl, sym, ◌∙◌, ap, subst, arith, ℕ, suc, ◌<◌, ◌≤◌, ◌+◌, List, [], ◌∷◌, ◌++◌, map, length, take, slice_index_or, Bool, true, false, Option, Some, None}
use Rattle.std.specs.Prelude.{fold, if◌then◌else◌, count_by}
use Rattle.std.specs.Cmp.Lexicographic.{slice_cmp}
use Rattle.std.specs.Fn.{Called}
use Rattle.std.specs.List.{AllByRecursion, IsDistinct}
use Rattle.std.specs.List.Sorted.{IsPermutation, IsSortedByClosure, IsSortedByKey}
use Rattle.std.specs.Ordering.{is_lt, nat_cmp}
use Rattle.std.proofs.lemmas.Cmp.{nat_list_cmp_total}
use Rattle.std.proofs.lemmas.Fn.{always_returns_same}
use Rattle.std.proofs.lemmas.List.{append-nil}
use Rattle.std.proofs.lemmas.List.Elements.{All-from_recursion, recursion_from_All}
use Rattle.std.proofs.lemmas.List.Sorted.{All-permutation, IsPermutation-append_left, IsPermutation-cons, IsPermutation-middle, IsPermutation-refl, IsPermutation-sym, IsPermutation-trans, ranks_by, sum_by-IsPermutation}
use Rattle.std.proofs.lemmas.List.Sums.{sum_by-cons}
use Rattle.std.proofs.lemmas.Map.Keys.{IsDistinct-head, IsDistinct-tail}
use Rattle.fp_model.specs.CheckpointText.{IsMsdbOf}
use Rattle.fp_model.specs.State.{ascend, is_below, key_of, loaded, put_by_key}
use Rattle.fp_model.specs.Texts.{same_text}
use Rattle.fp_model.specs.WellFormed.{IsMsdbDef}
use Rattle.fp_model.specs.declared.definitions.MsdbDef.{MsdbDef}
use Rattle.key_order.proofs.Ascending.{all_above, below_differs, not_both, same_or_above, tail_ascends}
use Rattle.msdb_store.proofs.Lookups.{at, at_first, at_later, found_has, found_is, same_list}
use Rattle.model_laws.proofs.Texts.{same_text_is, text_is_same}
use Rattle.state_laws.proofs.Start.{loaded_good}

abbrev one_if : Bool → ℕ
one_if b = if b then 1 else 0

module _ {X : Type 0} (key : X → List ℕ) where
  -- ---- order by key, of keys that differ

  -- how many elements have a key
  abbrev with_key : List ℕ → List X → ℕ
  with_key k xs = count_by (λ x. same_text (key x) k) xs

  with_key_cons : (k : List ℕ) (x : X) (xs : List X)
      → with_key k (x ∷ xs) ≡ one_if (same_text (key x) k) + with_key k xs
  with_key_cons k x xs = sum_by-cons (λ y. one_if (same_text (key y) k)) x xs

  none_with : (k : List ℕ) (xs : List X) → AllByRecursion (λ j. same_text k j ≡ false) (map key xs) → with_key k xs ≡ 0
  none_with k [] all = refl
  none_with k (x ∷ xs) all = omega (
    arith,
    with_key_cons k x xs,
    ap one_if (back (same_text (key x) k) refl),
    none_with k xs all.1,
  )
    where
      back : (b : Bool) → same_text (key x) k ≡ b → same_text (key x) k ≡ false
      back true e = absurd (not_both (sym (text_is_same k) ∙ ap (λ j. same_text k j) (sym (same_text_is (key x) k e)) ∙ all.0))
      back false e = e

  one_with : (k : List ℕ) (xs : List X) → IsDistinct same_text (map key xs) → with_key k xs ≤ 1
  one_with k [] apart = omega arith
  one_with k (x ∷ xs) apart = by (same_text (key x) k) refl
      (one_with k xs (IsDistinct-tail same_text (key x) (map key xs) apart))
    where
      by : (b : Bool) → same_text (key x) k ≡ b → with_key k xs ≤ 1 → with_key k (x ∷ xs) ≤ 1
      by true e later =
          let none : with_key k xs ≡ 0 = subst (λ j. with_key j xs ≡ 0) (same_text_is (key x) k e)
          (none_with (key x) xs (IsDistinct-head same_text (key x) (map key xs) apart)) in
          omega (arith, with_key_cons k x xs, ap one_if e, none)
      by false e later = omega (arith, with_key_cons k x xs, ap one_if e, later)

  ascends : (xs : List X) → IsSortedByKey key (slice_cmp nat_cmp) xs → ((k : List ℕ) → with_key k xs ≤ 1)
      → ascend (map key xs) ≡ true
  ascends [] sorted once = refl
  ascends (x ∷ []) sorted once = refl
  ascends (x ∷ y ∷ zs) sorted once =
      let first : is_below (key x) (key y) ≡ true =
      same_or_above (key y) (key x) (sorted 0 x (omega arith) (omega arith))
      (apart (same_text (key y) (key x)) refl) in
      rw first (ascends (y ∷ zs) (λ k d low within. later k d (omega (arith, within)))
      (λ k. omega (arith, once k, with_key_cons k x (y ∷ zs))))
    where
      apart : (b : Bool) → same_text (key y) (key x) ≡ b → same_text (key y) (key x) ≡ false
      apart true e = absurd (omega (
        arith,
        once (key x),
        with_key_cons (key x) x (y ∷ zs),
        with_key_cons (key x) y zs,
        ap one_if e,
        ap one_if (text_is_same (key x)),
      ))
      apart false e = e

      later : (k : ℕ) (d : X) → k + 1 < length (y ∷ zs)
          → is_below (key (slice_index_or (y ∷ zs) (k + 1) d)) (key (slice_index_or (y ∷ zs) k d)) ≡ false
      later k d within =
          let on : suc k + 1 ≡ suc (k + 1) = omega arith in
          subst (λ n. is_below (key (slice_index_or (x ∷ y ∷ zs) n d)) (key (slice_index_or (y ∷ zs) k d)) ≡ false) on
          (sorted (suc k) d (omega arith) (omega (arith, within)))

  -- ---- lists in this order with the same elements

  each_and : (P Q R : X → Type 0) (xs : List X) → ((x : X) → P x → Q x → R x) → AllByRecursion P xs
      → AllByRecursion Q xs → AllByRecursion R xs
  each_and P Q R [] both p q = tt
  each_and P Q R (x ∷ xs) both p q = (both x p.0 q.0, each_and P Q R xs both p.1 q.1)

  -- each element is found by its key
  each_found : (xs : List X) → ascend (map key xs) ≡ true → AllByRecursion (λ x. at key (key x) xs ≡ Some x) xs
  each_found [] up = tt
  each_found (x ∷ xs) up = (
    at_first key (key x) x xs (text_is_same (key x)),
    each_and (λ y. is_below (key x) (key y) ≡ true) (λ y. at key (key y) xs ≡ Some y)
        (λ y. at key (key y) (x ∷ xs) ≡ Some y) xs (λ y above here. at_later key (key y) x xs
        (below_differs (key x) (key y) above) ∙ here)
        (all_above key x xs up) (each_found xs (tail_ascends key x xs up)),
  )

  found_too : (xs ys : List X) → IsPermutation xs ys → ascend (map key ys) ≡ true → (j : List ℕ) (x : X)
      → at key j xs ≡ Some x → at key j ys ≡ Some x
  found_too xs ys same up j x there =
      let P : X → Type 0 = λ y. at key (key y) ys ≡ Some y in
      let all : AllByRecursion P xs = recursion_from_All P xs
      (All-permutation P ys xs (IsPermutation-sym xs ys same) (All-from_recursion P ys (each_found ys up))) in
      ap (λ k. at key k ys) (sym (same_text_is (key x) j (found_has key j x xs there))) ∙ found_is key P j x xs all there

  same_found : (xs ys : List X) → IsPermutation xs ys → ascend (map key xs) ≡ true → ascend (map key ys) ≡ true
      → (j : List ℕ) → at key j xs ≡ at key j ys
  same_found xs ys same upx upy j = by (at key j xs) (at key j ys) refl refl
    where
      by : (a b : Option X) → at key j xs ≡ a → at key j ys ≡ b → at key j xs ≡ at key j ys
      by None None ea eb = ea ∙ sym eb
      by None (Some y) ea eb = found_too ys xs (IsPermutation-sym xs ys same) upx j y eb ∙ sym eb
      by (Some x) b ea eb = ea ∙ sym (found_too xs ys same upy j x ea)

  one_order : (xs ys : List X) → IsPermutation xs ys → ascend (map key xs) ≡ true → ascend (map key ys) ≡ true → xs ≡ ys
  one_order xs ys same upx upy = same_list key xs ys upx upy (same_found xs ys same upx upy)

  -- ---- elements put one after another

  put_same : (x : X) (xs : List X) → IsPermutation (x ∷ xs) (put_by_key key x xs)
  put_same x [] = IsPermutation-refl (x ∷ [])
  put_same x (y ∷ ys) = by (is_below (key x) (key y)) refl (put_same x ys)
    where
      by : (b : Bool) → is_below (key x) (key y) ≡ b → IsPermutation (x ∷ ys) (put_by_key key x ys)
          → IsPermutation (x ∷ y ∷ ys) (put_by_key key x (y ∷ ys))
      by true e later = rw e (IsPermutation-refl (x ∷ y ∷ ys))
      by false e later = rw e (IsPermutation-trans (x ∷ y ∷ ys) (y ∷ x ∷ ys) (y ∷ put_by_key key x ys)
          (IsPermutation-sym (y ∷ x ∷ ys) (x ∷ y ∷ ys) (IsPermutation-middle (y ∷ []) x ys))
          (IsPermutation-cons y (x ∷ ys) (put_by_key key x ys) later))

  put_all : (xs ys : List X) → IsPermutation (xs ++ ys) (fold (λ (zs : List X) z. put_by_key key z zs) xs ys)
  put_all xs [] = subst (λ zs. IsPermutation zs xs) (sym (append-nil xs)) (IsPermutation-refl xs)
  put_all xs (y ∷ ys) =
      IsPermutation-trans (xs ++ y ∷ ys) (y ∷ (xs ++ ys)) _ (IsPermutation-middle xs y ys)
      (IsPermutation-trans (y ∷ (xs ++ ys)) (put_by_key key y xs ++ ys) _
      (IsPermutation-append_left ys (y ∷ xs) (put_by_key key y xs) (put_same y xs))
      (put_all (put_by_key key y xs) ys))

-- what a sort by such keys gives
pub sorted_by : {F : Type 0} {g : Mut F (Bor (List ℕ) × (Bor (List ℕ) × Unit {0})) Ordering} {f : F} (n m : ℕ)
    (xs : List (List ℕ)) → n ≡ m → IsSortedByClosure g f xs
    → ((a : Bor (List ℕ) × (Bor (List ℕ) × Unit {0})) (r : Ordering) (f' : F) → Called g f a r f'
    → (r ≡ slice_cmp nat_cmp (take n a.0.now) (take n a.1.0.now)) × (f' ≡ f))
    → IsSortedByKey (take m) (slice_cmp nat_cmp) xs
sorted_by {g = g} {f = f} n m xs same sorted each =
    subst (λ k. IsSortedByKey (take k) (slice_cmp nat_cmp) xs) same
    (sorted (λ x y. is_lt (slice_cmp nat_cmp (take n x) (take n y))) (ranks_by nat_list_cmp_total (take n))
    (always_returns_same g (λ a r. is_lt r ≡ is_lt (slice_cmp nat_cmp (take n a.0.now) (take n a.1.0.now))) f
    (λ a r f' k. (ap is_lt (each a r f' k).0, (each a r f' k).1))))

-- the load of a definition, sorted by key
pub sorted_is : (def : MsdbDef) (load : List (List ℕ)) → IsMsdbDef def → IsPermutation def.load load
    → IsSortedByKey (key_of def.fields) (slice_cmp nat_cmp) load → load ≡ (loaded def).segments
sorted_is def load is same sorted =
    let key : List ℕ → List ℕ = key_of def.fields in
    let once : (k : List ℕ) → with_key key k load ≤ 1 =
    λ k. omega (
      arith,
      one_with key k def.load is.keys,
      sum_by-IsPermutation (λ x. one_if (same_text (key x) k)) def.load load same,
    ) in
    one_order key load (loaded def).segments (IsPermutation-trans load def.load (loaded def).segments
    (IsPermutation-sym def.load load same) (put_all key [] def.load)) (ascends key load sorted once)
    ((loaded_good def is).in_order)

pub sorted_good : (def : MsdbDef) (load : List (List ℕ)) → IsMsdbDef def → load ≡ (loaded def).segments
    → IsMsdbOf def (record { segments = load })
sorted_good def load is same = subst (λ segments. IsMsdbOf def (record { segments = segments })) (sym same)
    (loaded_good def is)
