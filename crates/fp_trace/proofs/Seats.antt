-- What is known of each of some values: of one of them, and with another in its place.
use Rattle.std.proofs.Common.{◌≡◌, ℕ, zero, suc, List, [], ◌∷◌, Some, subst, slice_get, slice_set}
use Rattle.std.specs.List.{AllByRecursion}

pub has_at : {X : Type 0} (P : X → Type 0) (xs : List X) (n : ℕ) (x : X) → AllByRecursion P xs
    → slice_get xs n ≡ Some x → P x
has_at P [] n x all at = absurd (cc)
has_at P (y ∷ ys) zero x all at = let same : y ≡ x = cc in subst P same all.0
has_at P (y ∷ ys) (suc n) x all at = has_at P ys n x all.1 at

pub all_set : {X : Type 0} (P : X → Type 0) (xs : List X) (n : ℕ) (y : X) → P y → AllByRecursion P xs
    → AllByRecursion P (slice_set xs n y)
all_set P [] n y one all = tt
all_set P (x ∷ xs) zero y one all = (one, all.1)
all_set P (x ∷ xs) (suc n) y one all = (all.0, all_set P xs n y one all.1)
