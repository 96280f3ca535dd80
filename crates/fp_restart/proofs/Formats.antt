-- Data entry databases as they are formatted, area by area.
use Rattle.std.proofs.Common.{◌≡◌, ℕ, zero, suc, ◌+◌, ◌<◌, List, [], ◌∷◌, ◌++◌, length, take, get_or, replicate, map, sym, ap, ◌∙◌, arith}
use Rattle.std.specs.Prelude.{sum_by}
use Rattle.std.proofs.lemmas.List.{map_more}
use Rattle.std.proofs.lemmas.List.Sums.{sum_by_more}

-- equal elements behind equal elements
replicate-add : {X : Type 0} (m n : ℕ) (x : X) → replicate m x ++ replicate n x ≡ replicate (m + n) x
replicate-add zero n x = let e : n ≡ 0 + n = omega arith in ap (λ k. replicate k x) e
replicate-add (suc m) n x = let e : suc (m + n) ≡ suc m + n = omega arith in
    ap (λ l. x ∷ l) (replicate-add m n x) ∙ ap (λ k. replicate k x) e

-- as many as some numbers are together, and as many as one number more
pub replicate_next : {A X : Type 0} (f : A → ℕ) (xs : List A) (i : ℕ) (d : A) (x : X) (now : List X) → i < length xs
    → now ≡ replicate (sum_by f (take i xs)) x ++ replicate (f (get_or xs i d)) x
    → now ≡ replicate (sum_by f (take (i + 1) xs)) x
replicate_next f xs i d x now lt so_far =
    so_far ∙ replicate-add (sum_by f (take i xs)) (f (get_or xs i d)) x ∙ ap (λ k. replicate k x)
    (sym (sum_by_more f xs i d lt))

-- and a constant for one element more
pub constant_next : {A X : Type 0} (xs : List A) (i : ℕ) (d : A) (x : X) (now before : List X) → i < length xs
    → now ≡ before ++ x ∷ [] → before ≡ map (λ _. x) (take i xs) → now ≡ map (λ _. x) (take (i + 1) xs)
constant_next xs i d x now before lt is so_far = is ∙ ap (λ l. l ++ x ∷ []) so_far ∙ sym (map_more (λ _. x) xs i d lt)
