-- How many balancing groups there are.
use Rattle.std.proofs.Common.{◌≤◌, ℕ, List, [], ◌∷◌, arith, fold, length, max}
use Rattle.std.specs.List.{AllByRecursion}
use Rattle.fp_model.specs.WellFormed.{Between}
use Rattle.plain_laws.proofs.Lists.{greatest_from}

greatest_below : (groups : List ℕ) (most : ℕ) → most ≤ 16 → AllByRecursion (Between 1 16) groups
    → fold max most groups ≤ 16
greatest_below [] most low all = low
greatest_below (g ∷ gs) most low all = greatest_below gs (max most g) (grind (arith, low, all.0.1)) all.1

-- there are 1 to 16 groups
pub groups_bounded : (groups : List ℕ) → 1 ≤ length groups → AllByRecursion (Between 1 16) groups
    → (1 ≤ fold max 0 groups) × (fold max 0 groups ≤ 16)
groups_bounded [] some all = absurd (omega (arith, some))
groups_bounded (g ∷ gs) some all = (
  let r = greatest_from gs (max 0 g) in grind (arith, all.0.0, r),
  greatest_below (g ∷ gs) 0 (omega arith) all,
)
