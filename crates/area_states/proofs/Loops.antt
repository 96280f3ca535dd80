-- Lists that loops go along, and tests of numbers.
use Rattle.std.proofs.Common.{◌≡◌, Bool, true, false, refl}

pub by_cases : {P Q : Type 0} (b : Bool) → (b ≡ true → P) → (b ≡ false → Q) → (Q → ⊥) → P
by_cases true f g none = f refl
by_cases false f g none = absurd (none (g refl))
