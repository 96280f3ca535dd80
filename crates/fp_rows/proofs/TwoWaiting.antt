-- Two regions that wait for each other, and one that waits for the other alone.
use Rattle.std.proofs.Common.{◌≡◌, ℕ, zero, suc, ◌<◌, List, [], ◌∷◌, refl, sym, ap, arith, lit<}
use Rattle.std.specs.Prelude.{◌==◌, Contains, slice_index_or}
use Rattle.std.specs.List.{IsDistinct}
use Rattle.fp_model.specs.Waiting.{WaitsAlong, IsCycle}

-- ---- region 1 waits for region 2 alone, so no cycle closes yet

-- the only pair of a region that waits
abbrev pub only_pair : List (ℕ × ℕ)
only_pair = (1, 2) ∷ []

pair_at : (p : ℕ × ℕ) (k : ℕ) → k < 1 → slice_index_or only_pair k p ≡ p → (p.0 ≡ 1) × (p.1 ≡ 2)
pair_at p zero lt e = (ap (λ (q : ℕ × ℕ). q.0) (sym e), ap (λ (q : ℕ × ℕ). q.1) (sym e))
pair_at p (suc k) lt e = absurd (omega (arith, lt))

from_one : (p : ℕ × ℕ) → Contains only_pair p → (p.0 ≡ 1) × (p.1 ≡ 2)
from_one p c = pair_at p c.0 c.1 c.2

only_first : (r : ℕ) (rs : List ℕ) (goal : ℕ) → WaitsAlong only_pair r rs goal → r ≡ 1
only_first r [] goal w = (from_one (r, goal) w).0
only_first r (c ∷ cs) goal w = (from_one (r, c) w.0).0

pub no_cycle : (cycle : List ℕ) → ¬ IsCycle only_pair (1 ∷ cycle)
no_cycle [] w = let two : 1 ≡ 2 = (from_one (1, 1) w).1 in absurd (omega (arith, two))
no_cycle (c ∷ cs) w =
    let two : c ≡ 2 = (from_one (1, c) w.0).1 in
    let one : c ≡ 1 = only_first c cs 1 w.1 in
    absurd (omega (arith, two, one))

pub two_apart : IsDistinct ◌==◌ (2 ∷ 1 ∷ [])
unfolding IsDistinct
two_apart = ((refl, tt), (tt, tt))

-- region 1 waits for region 2, and region 2 would wait for region 1
abbrev pub both_pairs : List (ℕ × ℕ)
both_pairs = (2, 1) ∷ (1, 2) ∷ []

pub a_cycle : IsCycle both_pairs (2 ∷ 1 ∷ [])
a_cycle = ((0, lit< tt, refl), (1, lit< tt, refl))
