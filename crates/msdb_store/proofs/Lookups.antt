-- What a search for a key finds in a list behind an edit, and that the answers to all keys make up the list.
use Rattle.std.proofs.Common.{◌≡◌, refl, sym, ◌∙◌, ap, subst, List, [], ◌∷◌, Bool, true, false, Option, Some, None}
use Rattle.std.specs.Prelude.{find, if◌then◌else◌}
use Rattle.std.specs.List.{AllByRecursion}
use Rattle.fp_model.specs.State.{is_below, put_by_key, drop_key}
use Rattle.fp_model.specs.Texts.{same_text}
use Rattle.key_order.proofs.Ascending.{IsAscending, all_above, none_behind, not_above, not_below_itself, not_both, tail_ascends}
use Prim.Native.Nat.{ℕ}
use Rattle.model_laws.proofs.Texts.{same_text_is, text_is_same}
use Rattle.std.proofs.lemmas.Option.{none-some, same_Some}

-- two keys that are the same as a third are the same
pub meet : (a b c : List ℕ) → same_text a c ≡ true → same_text b c ≡ true → same_text a b ≡ true
meet a b c ac bc = subst (λ x. same_text a x ≡ true) (same_text_is a c ac ∙ sym (same_text_is b c bc)) (text_is_same a)

module _ {X : Type 0} (key : X → List ℕ) where
  abbrev pub at : List ℕ → List X → Option X
  at j xs = find (λ x. same_text (key x) j) xs

  -- one of two, where the first is found
  pub at_first : (j : List ℕ) (x : X) (xs : List X) → same_text (key x) j ≡ true → at j (x ∷ xs) ≡ Some x
  at_first j x xs same = rw same refl

  pub at_later : (j : List ℕ) (x : X) (xs : List X) → same_text (key x) j ≡ false → at j (x ∷ xs) ≡ at j xs
  at_later j x xs differs = rw differs refl

  both_none : (b : Bool) → None ≡ (if b then None else (let none : Option X = None in none))
  both_none true = refl
  both_none false = refl

  -- a key that was dropped is found no more, and the others as before
  pub find_dropped : (k j : List ℕ) (xs : List X) → at j (drop_key key k xs) ≡ (if same_text k j then None else at j xs)
  find_dropped k j [] = both_none (same_text k j)
  find_dropped k j (x ∷ xs) = by (same_text (key x) k) (same_text (key x) j) (same_text k j) refl refl refl
      (find_dropped k j xs)
    where
      by : (a b c : Bool) → same_text (key x) k ≡ a → same_text (key x) j ≡ b → same_text k j ≡ c
          → at j (drop_key key k xs) ≡ (if same_text k j then None else at j xs)
          → at j (drop_key key k (x ∷ xs)) ≡ (if same_text k j then None else at j (x ∷ xs))
      by true true true a b c later = rw (a, c) (rw c at later)
      by true true false a b c later = absurd (not_both
          (sym (subst (λ y. same_text y j ≡ true) (same_text_is (key x) k a) b) ∙ c))
      by true false true a b c later = absurd (not_both
          (sym (subst (λ y. same_text y j ≡ true) (sym (same_text_is (key x) k a)) c) ∙ b))
      by true false false a b c later = rw (a, c, b) (rw c at later)
      by false true true a b c later = absurd (not_both (sym (meet (key x) k j b c) ∙ a))
      by false true false a b c later = rw (a, c, b) refl
      by false false true a b c later = rw (a, c, b) (rw c at later)
      by false false false a b c later = rw (a, c, b) (rw c at later)

  -- a new element is found by its key, and the others as before
  pub find_put : (x : X) (j : List ℕ) (xs : List X) → AllByRecursion (λ y. same_text (key y) (key x) ≡ false) xs
      → at j (put_by_key key x xs) ≡ (if same_text (key x) j then Some x else at j xs)
  find_put x j [] others = refl
  find_put x j (y ∷ ys) others = by (is_below (key x) (key y)) (same_text (key y) j) (same_text (key x) j) refl refl
      refl (find_put x j ys others.1)
    where
      by : (a b c : Bool) → is_below (key x) (key y) ≡ a → same_text (key y) j ≡ b → same_text (key x) j ≡ c
          → at j (put_by_key key x ys) ≡ (if same_text (key x) j then Some x else at j ys)
          → at j (put_by_key key x (y ∷ ys)) ≡ (if same_text (key x) j then Some x else at j (y ∷ ys))
      by true b c a eb ec later = rw a refl
      by false true true a b c later = absurd (not_both (sym (meet (key y) (key x) j b c) ∙ others.0))
      by false true false a b c later = rw (a, b, c) refl
      by false false c a b ec later = rw (a, b) later

  -- what holds of each element holds of the one that is found
  pub found_is : (P : X → Type 0) (j : List ℕ) (x : X) (xs : List X) → AllByRecursion P xs → at j xs ≡ Some x → P x
  found_is P j x [] all e = absurd (none-some x e)
  found_is P j x (y ∷ ys) all e = by (same_text (key y) j) refl (found_is P j x ys all.1)
    where
      by : (b : Bool) → same_text (key y) j ≡ b → (at j ys ≡ Some x → P x) → P x
      by true b later = subst P (same_Some y x (sym (at_first j y ys b) ∙ e)) all.0
      by false b later = later (sym (at_later j y ys b) ∙ e)

  -- the one that is found has the key
  pub found_has : (j : List ℕ) (x : X) (xs : List X) → at j xs ≡ Some x → same_text (key x) j ≡ true
  found_has j x [] e = absurd (none-some x e)
  found_has j x (y ∷ ys) e = by (same_text (key y) j) refl (found_has j x ys)
    where
      by : (b : Bool) → same_text (key y) j ≡ b → (at j ys ≡ Some x → same_text (key x) j ≡ true)
          → same_text (key x) j ≡ true
      by true b later = subst (λ z. same_text (key z) j ≡ true) (same_Some y x (sym (at_first j y ys b) ∙ e)) b
      by false b later = later (sym (at_later j y ys b) ∙ e)

  -- a list in which the first element of another is found begins with it, or with a lower one
  data First (x y : X) : Type 0 where
    Same : x ≡ y → First x y
    Above : is_below (key y) (key x) ≡ true → First x y

  first_is : (x y : X) (ys : List X) → IsAscending key (y ∷ ys) → at (key x) (y ∷ ys) ≡ Some x → First x y
  first_is x y ys up e = by (same_text (key y) (key x)) refl
    where
      by : (b : Bool) → same_text (key y) (key x) ≡ b → First x y
      by true b = Same (sym (same_Some y x (sym (at_first (key x) y ys b) ∙ e)))
      by false b = Above (found_is (λ z. is_below (key y) (key z) ≡ true) (key x) x ys (all_above key y ys up)
          (sym (at_later (key x) y ys b) ∙ e))

  heads : (x y : X) → First x y → First y x → x ≡ y
  heads x y (Same e) other = e
  heads x y (Above a) (Same e) = sym e
  heads x y (Above a) (Above b) = absurd (not_both (sym b ∙ not_above (key y) (key x) a))

  -- behind an element none has its key
  none_later : (j : List ℕ) (x : X) (xs : List X) → IsAscending key (x ∷ xs) → same_text (key x) j ≡ true
      → at j xs ≡ None
  none_later j x xs up same = none_behind key j x xs
      (subst (λ k. is_below (key x) k ≡ false) (same_text_is (key x) j same) (not_below_itself (key x)))
      (all_above key x xs up)

  -- lists with ascending keys in which each key finds the same are the same
  pub same_list : (xs ys : List X) → IsAscending key xs → IsAscending key ys → ((j : List ℕ) → at j xs ≡ at j ys)
      → xs ≡ ys
  same_list [] [] upx upy same = refl
  same_list [] (y ∷ ys) upx upy same = absurd (none-some y
      (same (key y) ∙ at_first (key y) y ys (text_is_same (key y))))
  same_list (x ∷ xs) [] upx upy same = absurd (none-some x
      (sym (same (key x)) ∙ at_first (key x) x xs (text_is_same (key x))))
  same_list (x ∷ xs) (y ∷ ys) upx upy same =
      let head : x ≡ y = heads x y (first_is x y ys upy (sym (same (key x)) ∙ at_first (key x) x xs (text_is_same (key x))))
      (first_is y x xs upx (same (key y) ∙ at_first (key y) y ys (text_is_same (key y)))) in
      ap (λ z. z ∷ xs) head ∙ ap (λ zs. y ∷ zs) (same_list xs ys (tail_ascends key x xs upx) (tail_ascends key y ys upy)
      (λ j. tails j (same_text (key x) j) refl head))
    where
      tails : (j : List ℕ) (b : Bool) → same_text (key x) j ≡ b → x ≡ y → at j xs ≡ at j ys
      tails j true b head = none_later j x xs upx b ∙ sym
          (none_later j y ys upy (subst (λ z. same_text (key z) j ≡ true) head b))
      tails j false b head = sym (at_later j x xs b) ∙ same j ∙ at_later j y ys
          (subst (λ z. same_text (key z) j ≡ false) head b)
