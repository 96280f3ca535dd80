-- Locks, and who waits for whom.
use Rattle.std.specs.Prelude.{ℕ, List, [], ◌∷◌, filter, map, flat_map, Contains, Bool, true, false, not, ◌&&◌, ◌||◌, ◌==◌, if◌then◌else◌, Option, Some, None}
use Rattle.std.specs.List.{list_any}
use Rattle.fp_model.specs.declared.calls.Mode.{Mode}
use Rattle.fp_model.specs.declared.calls.Mode.TheVariants.{Share, Exclusive}
use Rattle.fp_model.specs.declared.calls.Resource.{Resource}
use Rattle.fp_model.specs.declared.calls.Resource.TheVariants.{Segment, Anchor}
use Rattle.fp_model.specs.Texts.{same_text}
use Rattle.fp_model.specs.State.{numbers_up}

-- A lock that a region holds, or a request that it has standing.
pub record Lock : Type 0 where
  pub region : ℕ
  pub resource : Resource
  pub mode : Mode

abbrev pub same_resource : Resource → Resource → Bool
same_resource (Segment m k) (Segment n l) = m == n && same_text k l
same_resource (Segment m k) (Anchor d a) = false
same_resource (Anchor d a) (Segment m k) = false
same_resource (Anchor d a) (Anchor e b) = d == e && a == b

abbrev pub is_exclusive : Mode → Bool
is_exclusive Share = false
is_exclusive Exclusive = true

-- a lock of another region on the resource, one of the two Exclusive
abbrev pub conflicts : Lock → Lock → Bool
conflicts wanted lock =
    not (lock.region == wanted.region) && same_resource lock.resource wanted.resource
    && (is_exclusive lock.mode || is_exclusive wanted.mode)

-- how a region holds a resource; the newest lock counts
abbrev pub held_as : List Lock → ℕ → Resource → Option Mode
held_as [] region resource = None
held_as (lock ∷ locks) region resource =
    if lock.region == region && same_resource lock.resource resource
    then Some lock.mode
    else held_as locks region resource

-- those of the other regions
abbrev pub without_region : ℕ → List Lock → List Lock
without_region region locks = filter (λ lock. not (lock.region == region)) locks

-- whether some lock stands in the way
abbrev pub is_blocked : List Lock → Lock → Bool
is_blocked locks wanted = list_any (conflicts wanted) locks

-- the regions, of so many, that stand in the way, ascending
abbrev pub blockers : ℕ → List Lock → Lock → List ℕ
blockers regions locks wanted =
    filter (λ region. list_any (λ lock. lock.region == region && conflicts wanted lock) locks) (numbers_up regions 1)

-- the pairs of a region with a standing request and a region whose lock conflicts with it
abbrev pub waits : List Lock → List Lock → List (ℕ × ℕ)
waits requests locks =
    flat_map (λ wanted. map (λ lock. (wanted.region, lock.region)) (filter (conflicts wanted) locks)) requests

-- a region waits for the first of the list, each for the next, and the last for the goal
abbrev pub WaitsAlong : List (ℕ × ℕ) → ℕ → List ℕ → ℕ → Type 0
WaitsAlong pairs region [] goal = Contains pairs (region, goal)
WaitsAlong pairs region (r ∷ rs) goal = Contains pairs (region, r) × WaitsAlong pairs r rs goal

-- the regions wait each for the next, and the last for the first
abbrev pub IsCycle : List (ℕ × ℕ) → List ℕ → Type 0
IsCycle pairs [] = ⊥
IsCycle pairs (r ∷ rs) = WaitsAlong pairs r rs r

-- a request in place of the region's old one
abbrev pub with_request : Lock → List Lock → List Lock
with_request wanted requests = wanted ∷ without_region wanted.region requests
