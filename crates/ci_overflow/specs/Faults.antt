-- When an interval of an area is at fault.
use Rattle.std.specs.Prelude.{◌≡◌, ◌≢◌, ◌⊎◌, ℕ, ◌+◌, ◌-◌, ◌<◌, ◌≤◌, List, length}
use Rattle.ci_space.specs.declared.intervals.Shape.{Shape}
use Rattle.ci_space.specs.Element.{size_for}
use Rattle.ci_space.specs.Interval.{IsInterval, IsEmpty, kind_of}
use Rattle.ci_overflow.specs.Places.{first_base, first_independent}
use Rattle.ci_overflow.specs.Lists.{bytes_at, link_of, owner_of, counted, first_free, IsChain, Holds, IsOwned, IsInPlace}
use Rattle.ci_overflow.specs.declared.reading.Place.{Place}

-- an empty interval of this size has room for `n` bytes
abbrev pub FitsEmpty : ℕ → ℕ → Type 0
FitsEmpty size n = size_for n ≤ size - 32

-- the area is to have an interval there: before the independent overflow, or one of those that it has
abbrev pub HasPlace : Shape → List (List ℕ) → ℕ → Type 0
HasPlace shape area ci = (ci < first_independent shape) ⊎ (ci < length area)

-- `from` holds this link of the list with this owner, which is a unit of work's number plus 1, or 0 for
-- the free chain
pub data HoldsLink (shape : Shape) (area : List (List ℕ)) (owner from link : ℕ) : Type 0 where
  -- a unit of work's list begins in its first base interval
  in_base : (uow : ℕ) → uow < shape.uows → owner ≡ uow + 1 → from ≡ first_base shape uow
      → link ≡ link_of (bytes_at area from)
      → HoldsLink shape area owner from link
  -- the free chain begins in control
  in_control : owner ≡ 0 → from ≡ 0 → link ≡ first_free area → HoldsLink shape area owner from link
  -- both go on in the intervals with the owner
  in_list : IsOwned shape area owner from → link ≡ link_of (bytes_at area from) → HoldsLink shape area owner from link

-- an independent overflow interval with this owner, of the kind of its place
pub record IsShared (shape : Shape) (area : List (List ℕ)) (owner ci : ℕ) : Type 0 where
  pub owned : IsOwned shape area owner ci
  pub is_kind : kind_of (bytes_at area ci) ≡ 5

-- the links lead from `from` to `to`; 0 ends them
pub data Leads (area : List (List ℕ)) : ℕ → ℕ → Type 0 where
  here : (ci : ℕ) → Leads area ci ci
  on : (from to : ℕ) → from ≢ 0 → Leads area (link_of (bytes_at area from)) to → Leads area from to

-- the interval `ci` is at fault
pub data IsAtFault (shape : Shape) (area : List (List ℕ)) (ci : ℕ) : Type 0 where
  -- no interval of the kind of its place stands there
  misplaced : HasPlace shape area ci → ¬ IsInPlace shape area ci → IsAtFault shape area ci
  -- it holds a link of a list that leads to no independent overflow interval with the list's owner
  bad_link : (owner link : ℕ) → HoldsLink shape area owner ci link → link ≢ 0 → ¬ IsShared shape area owner link
      → IsAtFault shape area ci
  -- it is an independent overflow interval, and its link leads back to it
  circle : (owner : ℕ) → IsOwned shape area owner ci → Leads area (link_of (bytes_at area ci)) ci
      → IsAtFault shape area ci
  -- it is control, and counts another number of independent overflow intervals than the area has
  miscounted : ci ≡ 0 → length area ≢ first_independent shape + counted area → IsAtFault shape area ci
  -- it has the owner of the free chain, and isn't empty
  in_use : IsOwned shape area 0 ci → ¬ IsEmpty (bytes_at area ci) → IsAtFault shape area ci
  -- its owner is no unit of work that has base intervals
  no_unit : (owner : ℕ) → owner ≢ 0 → IsOwned shape area owner ci → (shape.uows < owner) ⊎ (shape.base ≡ 0)
      → IsAtFault shape area ci
  -- the list of the unit of work that is its owner ends, and doesn't hold it
  unlisted : (uow : ℕ) (list : List ℕ) → uow < shape.uows → IsOwned shape area (uow + 1) ci
      → IsChain area (link_of (bytes_at area (first_base shape uow))) list → ¬ Holds list ci → IsAtFault shape area ci

-- an interval of this kind and this owner is there
pub record IsThere (area : List (List ℕ)) (place : Place) : Type 0 where
  pub below : place.ci < length area
  pub is_kind : kind_of (bytes_at area place.ci) ≡ place.kind
  pub is_owner : owner_of (bytes_at area place.ci) ≡ place.owner

-- no interval is there: the bytes are no interval, which names the place itself, or the area ends before it
abbrev pub IsNoInterval : List (List ℕ) → ℕ → ℕ → ℕ → Type 0
IsNoInterval area ci from n = ((n ≡ ci) × (ci < length area) × ¬ IsInterval (bytes_at area ci))
    ⊎ ((n ≡ from) × (length area ≤ ci))

-- the interval of this place is not there, which names the interval that holds the link to it, or the
-- bytes there are no interval, which names the place itself
abbrev pub IsNotThere : List (List ℕ) → Place → ℕ → Type 0
IsNotThere area place n =
    ((n ≡ place.ci) × (place.ci < length area) × ¬ IsInterval (bytes_at area place.ci))
    ⊎ ((n ≡ place.from) × ¬ IsThere area place)
