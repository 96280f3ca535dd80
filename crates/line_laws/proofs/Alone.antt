-- Lists in which at most one element stands, as pieces of them move.
use Rattle.std.proofs.Common.{◌≡◌, ◌⊎◌, inl, inr, refl, sym, ◌∙◌, ap, subst, arith, ℕ, zero, suc, ◌≤◌, List, [], ◌∷◌, ◌++◌, length, Some, slice_get, slice_set}
use Rattle.std.specs.Prelude.{flat_map}
use Rattle.std.proofs.lemmas.List.{append-nil, append_assoc, length-append}
use Rattle.std.proofs.lemmas.Option.{same_Some}

-- one piece in place of another
pub record IsPut {A : Type 0} (old new before after : List A) : Type 0 where
  pub front : List A
  pub back : List A
  pub was : before ≡ front ++ (old ++ back)
  pub is : after ≡ front ++ (new ++ back)

-- where an element is replaced, so is what it gives
pub put : {X A : Type 0} (f : X → List A) (xs : List X) (i : ℕ) (x y : X) → slice_get xs i ≡ Some x
    → IsPut (f x) (f y) (flat_map f xs) (flat_map f (slice_set xs i y))
put f [] i x y e = absurd cc
put f (z ∷ zs) zero x y e = record {
  front = [];
  back = flat_map f zs;
  was = ap (λ w. f w ++ flat_map f zs) (same_Some z x e);
  is = refl;
}
put f (z ∷ zs) (suc i) x y e =
    let r = put f zs i x y e in
    record {
      front = f z ++ r.front;
      back = r.back;
      was = ap (λ l. f z ++ l) r.was ∙ sym (append_assoc (f z) r.front (f x ++ r.back));
      is = ap (λ l. f z ++ l) r.is ∙ sym (append_assoc (f z) r.front (f y ++ r.back));
    }

-- the same piece
pub put_same : {A : Type 0} (piece before after : List A) → IsPut piece piece before after → after ≡ before
put_same piece before after p = p.is ∙ sym p.was

-- a piece that goes to the end of what is done
pub moves_out : {A : Type 0} (d a x b q r : List A) → length ((a ++ (x ++ b)) ++ q) ≤ 1
    → (d ++ x) ++ (((a ++ b) ++ q) ++ r) ≡ d ++ (((a ++ (x ++ b)) ++ q) ++ r)
moves_out d a [] b q r few = ap (λ l. l ++ (((a ++ b) ++ q) ++ r)) (append-nil d)
moves_out d [] (y ∷ x) [] [] r few =
    append_assoc d (y ∷ x) r
    ∙ ap (λ l. d ++ (l ++ r)) (sym (append-nil ((y ∷ x) ++ []) ∙ append-nil (y ∷ x)))
moves_out d (z ∷ a) (y ∷ x) b q r few =
    absurd (omega (
      arith,
      few,
      length-append ((z ∷ a) ++ ((y ∷ x) ++ b)) q,
      length-append (z ∷ a) ((y ∷ x) ++ b),
      length-append (y ∷ x) b,
    ))
moves_out d [] (y ∷ x) (z ∷ b) q r few =
    absurd (omega (arith, few, length-append ((y ∷ x) ++ (z ∷ b)) q, length-append (y ∷ x) (z ∷ b)))
moves_out d [] (y ∷ x) [] (z ∷ q) r few =
    absurd (omega (arith, few, length-append ((y ∷ x) ++ []) (z ∷ q), length-append (y ∷ x) []))

-- a piece that moves from the second half to the first
pub moves_over : {A : Type 0} (a x b u v w : List A) → length ((a ++ b) ++ (u ++ ((x ++ v) ++ w))) ≤ 1
    → (a ++ (x ++ b)) ++ (u ++ (v ++ w)) ≡ (a ++ b) ++ (u ++ ((x ++ v) ++ w))
moves_over a [] b u v w few = refl
moves_over [] (y ∷ x) [] [] [] [] few = refl
moves_over (z ∷ a) (y ∷ x) b u v w few =
    absurd (omega (
      arith,
      few,
      length-append ((z ∷ a) ++ b) (u ++ (((y ∷ x) ++ v) ++ w)),
      length-append (z ∷ a) b,
      length-append u (((y ∷ x) ++ v) ++ w),
      length-append ((y ∷ x) ++ v) w,
      length-append (y ∷ x) v,
    ))
moves_over [] (y ∷ x) (z ∷ b) u v w few =
    absurd (omega (
      arith,
      few,
      length-append (z ∷ b) (u ++ (((y ∷ x) ++ v) ++ w)),
      length-append u (((y ∷ x) ++ v) ++ w),
      length-append ((y ∷ x) ++ v) w,
      length-append (y ∷ x) v,
    ))
moves_over [] (y ∷ x) [] (z ∷ u) v w few =
    absurd (omega (
      arith,
      few,
      length-append (z ∷ u) (((y ∷ x) ++ v) ++ w),
      length-append ((y ∷ x) ++ v) w,
      length-append (y ∷ x) v,
    ))
moves_over [] (y ∷ x) [] [] (z ∷ v) w few =
    absurd (omega (arith, few, length-append ((y ∷ x) ++ (z ∷ v)) w, length-append (y ∷ x) (z ∷ v)))
moves_over [] (y ∷ x) [] [] [] (z ∷ w) few =
    absurd (omega (arith, few, length-append ((y ∷ x) ++ []) (z ∷ w), length-append (y ∷ x) []))

-- a piece that joins, where it is nothing or joins nothing
pub moves_in : {A : Type 0} (d a u f w x r : List A) → (x ≡ []) ⊎ (a ++ (u ++ (f ++ w)) ≡ [])
    → d ++ ((a ++ (u ++ ((f ++ x) ++ w))) ++ r) ≡ d ++ ((a ++ (u ++ (f ++ w))) ++ (x ++ r))
moves_in d a u f w x r (inl none) =
    subst (λ l. d ++ ((a ++ (u ++ ((f ++ l) ++ w))) ++ r) ≡ d ++ ((a ++ (u ++ (f ++ w))) ++ (l ++ r))) (sym none)
    (ap (λ l. d ++ ((a ++ (u ++ (l ++ w))) ++ r)) (append-nil f))
moves_in d [] [] [] [] x r (inr none) = ap (λ l. d ++ (l ++ r)) (append-nil x)
moves_in d (z ∷ a) u f w x r (inr none) = absurd cc
moves_in d [] (z ∷ u) f w x r (inr none) = absurd cc
moves_in d [] [] (z ∷ f) w x r (inr none) = absurd cc
moves_in d [] [] [] (z ∷ w) x r (inr none) = absurd cc

-- and one that is done at once
pub moves_past : {A : Type 0} (d p x r : List A) → (x ≡ []) ⊎ (p ≡ [])
    → (d ++ x) ++ (p ++ r) ≡ d ++ (p ++ (x ++ r))
moves_past d p x r (inl none) =
    subst (λ l. (d ++ l) ++ (p ++ r) ≡ d ++ (p ++ (l ++ r))) (sym none) (ap (λ l. l ++ (p ++ r)) (append-nil d))
moves_past d p x r (inr none) =
    subst (λ l. (d ++ x) ++ (l ++ r) ≡ d ++ (l ++ (x ++ r))) (sym none) (append_assoc d x r)
