-- What the code keeps of the regions, and what stands by it.
use Rattle.std.specs.Prelude.{◌≡◌, ℕ, zero, suc, ◌≤◌, List, [], ◌∷◌, length, map, Contains, Bool, false, not, ◌&&◌, ◌==◌, Option, Some, None, slice_get}
use Rattle.fp_model.specs.declared.calls.Mode.{Mode}
use Rattle.fp_model.specs.declared.calls.Resource.{Resource}
use Rattle.ci_locks.specs.Holdings.{AreHeld, held_by, mode_of}
use Rattle.ci_locks.specs.Sets.{has}
use Rattle.ci_locks.specs.Standing.{is_in_conflict}
use Rattle.ci_locks.specs.Table.{Row}
use Rattle.ci_locks.specs.declared.holding.Holdings.{Holdings}
use Rattle.ci_locks.specs.declared.state.Region.{Region}
use Rattle.ci_locks.specs.declared.state.Request.{Request}
use Rattle.ci_locks.specs.declared.state.State.{State}

abbrev pub region_at : List Region → ℕ → Option Region
region_at regions zero = None
region_at regions (suc place) = slice_get regions place

-- ---- what contracts see

abbrev pub row_of : Holdings → ℕ → Region → Row
row_of holdings number region = record {
  anchors = map (λ e. (e.0, mode_of e.1 number)) holdings.anchors.entries;
  segments = map (λ table. map (λ e. (e.0.items, mode_of e.1 number)) table.entries) holdings.segments.items;
  request = region.request;
}

abbrev pub rows_from : Holdings → ℕ → List Region → List Row
rows_from holdings place [] = []
rows_from holdings place (region ∷ regions) = row_of holdings (suc place) region ∷ rows_from holdings (suc place)
    regions

abbrev pub rows_of : State → List Row
rows_of s = rows_from s.holdings 0 s.regions.items

-- ---- what the code keeps true

-- whether a region stands in the way of what another asks for
abbrev pub is_ahead : Holdings → ℕ → Option Request → ℕ → Bool
is_ahead holdings number None other = false
is_ahead holdings number (Some request) other = not (other == number) && is_in_conflict
    (held_by holdings other request.resource) request.mode

-- its set has those that stand in its way
abbrev pub IsRight : Holdings → ℕ → Region → Type 0
IsRight holdings number region = (other : ℕ) → has region.ahead.0 other ≡ is_ahead holdings number region.request other

pub record IsSound (s : State) : Type 0 where
  pub few : length s.regions.items ≤ 64
  pub right : (number : ℕ) (region : Region) → region_at s.regions.items number ≡ Some region
      → IsRight s.holdings number region
  -- its list has all that it holds
  pub listed : (number : ℕ) (region : Region) → region_at s.regions.items number ≡ Some region
      → (resource : Resource) (mode : Mode) → held_by s.holdings number resource ≡ Some mode
      → Contains region.held.items resource
  pub within : (number : ℕ) (resource : Resource) (mode : Mode) → held_by s.holdings number resource ≡ Some mode
      → (1 ≤ number) × (number ≤ length s.regions.items)
  pub held : AreHeld s.holdings
