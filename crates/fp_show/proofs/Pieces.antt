-- Texts that are made a piece at a time.
use Rattle.std.proofs.Common.{◌≡◌, ℕ, ◌-◌, ◌≤◌, List, [], ◌∷◌, ◌++◌, length, map, take, drop, get_or, append_assoc, ap, sym, ◌∙◌, arith}
use Rattle.std.specs.Prelude.{flat_map}
use Rattle.std.specs.List.{join_with_byte}
use Rattle.std.proofs.lemmas.List.{append-nil, take_rest}

-- what is joined by a byte: the first, and each other behind that byte
pub joined_behind : {X : Type 0} (f : X → List ℕ) (c : ℕ) (text : List ℕ) (xs : List X)
    → join_with_byte c (text ∷ map f xs) ≡ text ++ flat_map (λ x. c ∷ f x) xs
joined_behind f c text [] = sym (append-nil text)
joined_behind f c text (x ∷ xs) = ap (λ (ys : List ℕ). text ++ c ∷ ys) (joined_behind f c (f x) xs)

-- the same of a list that isn't empty: its first element, and the others
pub joined_all : {X : Type 0} (f : X → List ℕ) (c : ℕ) (before : List ℕ) (xs : List X) (d : X) → 1 ≤ length xs
    → (before ++ f (get_or xs 0 d)) ++ flat_map (λ x. c ∷ f x) (take (length xs - 1) (drop 1 xs))
    ≡ before ++ join_with_byte c (map f xs)
joined_all f c before [] d some = absurd (omega (arith, some))
joined_all f c before (y ∷ ys) d some =
    ap (λ (others : List _). (before ++ f y) ++ flat_map (λ x. c ∷ f x) others) (take_rest (y ∷ ys) 1)
    ∙ append_assoc before (f y) (flat_map (λ x. c ∷ f x) ys)
    ∙ ap (λ (text : List ℕ). before ++ text) (sym (joined_behind f c (f y) ys))
