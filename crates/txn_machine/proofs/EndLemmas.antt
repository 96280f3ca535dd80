-- Lists seen from their ends.
use Rattle.std.proofs.Common.{◌≡◌, ◌∙◌, refl, sym, ap, arith, ℕ, zero, suc, ◌+◌, ◌-◌, ◌<◌, List, [], ◌∷◌, ◌++◌, length, take, get_or, None}
use Rattle.std.specs.Prelude.{slice_set}
use Rattle.std.proofs.Math.Seq.{take-suc, take-append_seam}
use Rattle.std.proofs.lemmas.List.{take_all, length-append}

pub last_of : {X : Type 0} (xs : List X) (d : X) → 0 < length xs → (front : List X)
    × (xs ≡ front ++ get_or xs (length xs - 1) d ∷ [])
last_of xs d lt =
    let at : suc (length xs - 1) ≡ length xs = omega arith in (
      take (length xs - 1) xs,
      sym (take_all (suc (length xs - 1)) xs (omega arith)) ∙ take-suc xs (length xs - 1) d
          (omega arith),
    )

pub set_last : {X : Type 0} (front : List X) (last new : X) (i : ℕ) → i ≡ length front
    → slice_set (front ++ last ∷ []) i new ≡ front ++ new ∷ []
set_last [] last new zero is = refl
set_last [] last new (suc i) is = absurd (omega arith)
set_last (x ∷ xs) last new zero is = absurd (omega arith)
set_last {X} (x ∷ xs) last new (suc i) is = ap (λ (rest : List X). x ∷ rest) (set_last xs last new i (omega arith))

pub set_at_end : {X : Type 0} (xs front : List X) (last new : X) (n : ℕ) → n ≡ length xs → xs ≡ front ++ last ∷ []
    → slice_set xs (n - 1) new ≡ front ++ new ∷ []
set_at_end {X} xs front last new n len is =
    let long : length xs ≡ length front + 1 = ap length is ∙ length-append front (last ∷ []) in
    ap (λ (ys : List X). slice_set ys (n - 1) new) is ∙ set_last front last new (n - 1) (omega arith)

same_end_of : {X : Type 0} (a b : List X) (x y : X) → a ++ x ∷ [] ≡ b ++ y ∷ [] → a ≡ b
same_end_of {X} a b x y is =
    let long : length a + 1 ≡ length b + 1 = sym (length-append a (x ∷ [])) ∙ ap length is ∙ length-append b (y ∷ []) in
    let same : length a ≡ length b = omega arith in
    sym (take-append_seam a (x ∷ [])) ∙ ap (take (length a)) is ∙ ap (λ (n : ℕ). take n (b ++ y ∷ [])) same ∙
    take-append_seam b (y ∷ [])

pub front_is : {X : Type 0} (xs a b : List X) (x y : X) → xs ≡ a ++ x ∷ [] → xs ≡ b ++ y ∷ [] → a ≡ b
front_is xs a b x y h k = same_end_of a b x y (sym h ∙ k)
