-- Places of lists, and what is left behind them.
use Rattle.std.proofs.Common.{refl, ◌≡◌, subst, ℕ, zero, suc, List, [], ◌∷◌, drop, Some, None, slice_get}
use Rattle.std.specs.List.{AllByRecursion}

-- ---- places

pub each_has : {X : Type 0} (P : X → Type 0) (xs : List X) (n : ℕ) (x : X) → AllByRecursion P xs
    → slice_get xs n ≡ Some x → P x
each_has P [] n x all at = absurd (cc)
each_has P (y ∷ ys) zero x all at = let same : y ≡ x = cc in subst P same all.0
each_has P (y ∷ ys) (suc n) x all at = each_has P ys n x all.1 at

-- ---- what is left

pub drop_none : {X : Type 0} (xs : List X) (n : ℕ) → slice_get xs n ≡ None → drop n xs ≡ []
drop_none [] zero none = refl
drop_none [] (suc n) none = refl
drop_none (x ∷ xs) zero none = absurd (cc)
drop_none (x ∷ xs) (suc n) none = drop_none xs n none
