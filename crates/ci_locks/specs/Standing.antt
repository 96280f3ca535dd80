-- How each region holds each resource, and the request that it has standing.
use Rattle.std.specs.Prelude.{◌≡◌, ⊤, ℕ, ◌≤◌, List, ◌∷◌, Contains, ◌↔◌, Bool, true, false, ◌||◌, ◌==◌, Option, Some, None}
use Rattle.std.specs.List.{IsDistinct}
use Rattle.fp_model.specs.declared.calls.Mode.{Mode}
use Rattle.fp_model.specs.declared.calls.Mode.TheVariants.{Share, Exclusive}
use Rattle.fp_model.specs.declared.calls.Resource.{Resource}
use Rattle.fp_model.specs.Waiting.{Lock, held_as, is_blocked, is_exclusive, blockers, waits, IsCycle, without_region, with_request}
use Rattle.ci_locks.specs.declared.locks.Grant.{Grant}
use Rattle.ci_locks.specs.declared.locks.Grant.TheVariants as grant

-- Regions count from 1. A region that isn't there holds nothing and asks for nothing.
pub record Standing : Type 0 where
  pub regions : ℕ
  pub holds : ℕ → Resource → Option Mode
  pub asks : ℕ → Option Lock

-- These lists of locks and of requests, in any order, say what stands. Of a region's locks on one resource the newest
-- is the strongest.
pub record Shows (s : Standing) (locks requests : List Lock) : Type 0 where
  pub held : (region : ℕ) (resource : Resource) → held_as locks region resource ≡ s.holds region resource
  pub strongest : (lock : Lock) → Contains locks lock → lock.mode ≡ Exclusive
      → s.holds lock.region lock.resource ≡ Some Exclusive
  pub within : (lock : Lock) → Contains locks lock → (1 ≤ lock.region) × (lock.region ≤ s.regions)
  pub standing : (request : Lock) → Contains requests request ↔ (s.asks request.region ≡ Some request)

-- whether a lock that is held so stands in the way of a request
abbrev pub is_in_conflict : Option Mode → Mode → Bool
is_in_conflict None mode = false
is_in_conflict (Some held) mode = is_exclusive held || is_exclusive mode

-- the locks with one that is gained; one that is held Exclusive stays
abbrev pub gained_over : Option Mode → Lock → List Lock → List Lock
gained_over None wanted locks = wanted ∷ locks
gained_over (Some Share) wanted locks = wanted ∷ locks
gained_over (Some Exclusive) wanted locks = locks

abbrev pub gained : Lock → List Lock → List Lock
gained wanted locks = gained_over (held_as locks wanted.region wanted.resource) wanted locks

-- Held where nothing stands in the way. Else a cycle that the request would close, the requester first and no region
-- twice; or, where there is none, those that stand in the way.
abbrev pub IsGrant : ℕ → List Lock → List Lock → Lock → Grant → Type 0
IsGrant regions locks requests wanted grant.Held = is_blocked locks wanted ≡ false
IsGrant regions locks requests wanted (grant.Wait holders) =
    (is_blocked locks wanted ≡ true)
    × (holders ≡ blockers regions locks wanted)
    × ((cycle : List ℕ) → ¬ IsCycle (waits (with_request wanted requests) locks) (wanted.region ∷ cycle))
IsGrant regions locks requests wanted (grant.Cycle list) =
    (cycle : List ℕ)
    × (list ≡ wanted.region ∷ cycle)
    × IsCycle (waits (with_request wanted requests) locks) (wanted.region ∷ cycle)
    × IsDistinct ◌==◌ (wanted.region ∷ cycle)

-- of the list of a cycle
abbrev pub IfCycle : Grant → (List ℕ → Type 0) → Type 0
IfCycle grant.Held P = ⊤
IfCycle (grant.Wait holders) P = ⊤
IfCycle (grant.Cycle list) P = P list

-- the locks after an answer
abbrev pub locks_after : Grant → Lock → List Lock → List Lock
locks_after grant.Held wanted locks = gained wanted locks
locks_after (grant.Wait holders) wanted locks = locks
locks_after (grant.Cycle list) wanted locks = locks

-- the requests after an answer: one that waits stands in place of the region's old one, and else the region has none
abbrev pub requests_after : Grant → Lock → List Lock → List Lock
requests_after grant.Held wanted requests = without_region wanted.region requests
requests_after (grant.Wait holders) wanted requests = with_request wanted requests
requests_after (grant.Cycle list) wanted requests = without_region wanted.region requests
