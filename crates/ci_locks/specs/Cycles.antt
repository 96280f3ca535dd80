-- Which cycle a request is told that would close several: the first in the order of words.
use Rattle.std.specs.Prelude.{◌≡◌, ⊤, ◌⊎◌, ℕ, zero, suc, ◌<◌, List, [], ◌∷◌, filter_map, Bool, not, ◌&&◌, ◌==◌, Option, Some, None, if◌then◌else◌, option_map, slice_get, unwrap_or}
use Rattle.std.specs.List.{IsDistinct, list_any}
use Rattle.fp_model.specs.State.{numbers_up}
use Rattle.fp_model.specs.Waiting.{Lock, IsCycle, waits}
use Rattle.ci_locks.specs.Graph.{is_in}

-- In the order of words one list comes no later than another: it is its beginning, or it has the lesser number where
-- they part.
abbrev pub IsNoLater : List ℕ → List ℕ → Type 0
IsNoLater [] ys = ⊤
IsNoLater (x ∷ xs) [] = ⊥
IsNoLater (x ∷ xs) (y ∷ ys) = (x < y) ⊎ ((x ≡ y) × IsNoLater xs ys)

-- Of the cycles from this region on that have no region twice, where regions wait by these pairs, none comes before it.
abbrev pub IsFirstCycle : List (ℕ × ℕ) → ℕ → List ℕ → Type 0
IsFirstCycle pairs region list =
    (cycle : List ℕ) → IsCycle pairs (region ∷ cycle) → IsDistinct ◌==◌ (region ∷ cycle)
    → IsNoLater list (region ∷ cycle)

-- ---- the same as a search

-- on to the next region, where this one leads there and it wasn't passed
abbrev pub way_by : (ℕ → ℕ → Bool) → (List ℕ → ℕ → Option (List ℕ)) → List ℕ → ℕ → ℕ → Option (List ℕ)
way_by leads from passed region next =
    if leads region next && not (is_in passed next)
    then option_map (λ way. next ∷ way) (from (next ∷ passed) next)
    else None

-- The first way from a region to the goal, among so many regions, in so many steps at most, through none that was
-- passed. It is at its end where the region leads to the goal; else it goes on to the least region from which there is
-- such a way.
abbrev pub first_way : ℕ → (ℕ → ℕ → Bool) → ℕ → ℕ → List ℕ → ℕ → Option (List ℕ)
first_way regions leads goal zero passed region = None
first_way regions leads goal (suc steps) passed region =
    if leads region goal then Some []
    else slice_get (filter_map (way_by leads (first_way regions leads goal steps) passed region) (numbers_up regions 1))
    0

-- whether a region waits for another
abbrev pub is_pair : List (ℕ × ℕ) → ℕ → ℕ → Bool
is_pair pairs a b = list_any (λ pair. pair.0 == a && pair.1 == b) pairs

-- The first cycle from a region on, of so many regions, by all requests and locks.
abbrev pub first_cycle : ℕ → List Lock → List Lock → ℕ → List ℕ
first_cycle regions requests locks region =
    region ∷ unwrap_or (first_way regions (is_pair (waits requests locks)) region regions (region ∷ []) region) []
