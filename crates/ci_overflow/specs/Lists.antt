-- The overflow lists of an area: one of each unit of work, and the free chain.
use Rattle.std.specs.Prelude.{◌≡◌, ◌≢◌, ◌⊎◌, ℕ, ◌+◌, ◌<◌, ◌≤◌, List, [], ◌∷◌, length, get_or, slice_index, ⊤}
use Rattle.ci_space.specs.declared.intervals.Shape.{Shape}
use Rattle.ci_space.specs.Interval.{IsInterval, IsEmpty, kind_of}
use Rattle.ci_space.specs.Head.{head_of, ends_of}
use Rattle.ci_overflow.specs.Places.{first_base, first_independent, kind_at}

-- the bytes of an interval of the area, none past its end
abbrev pub bytes_at : List (List ℕ) → ℕ → List ℕ
bytes_at area ci = get_or area ci []

-- the link in an interval's head, and the owner
unfoldable pub link_of : List ℕ → ℕ
link_of bytes = (head_of bytes).link

unfoldable pub owner_of : List ℕ → ℕ
owner_of bytes = (head_of bytes).owner

-- control's number of independent overflow intervals, and the first of the free chain
unfoldable pub counted : List (List ℕ) → ℕ
counted area = slice_index (ends_of (bytes_at area 0)) 2

unfoldable pub first_free : List (List ℕ) → ℕ
first_free area = slice_index (ends_of (bytes_at area 0)) 3

-- the links give these intervals from `first` on, and end at 0
abbrev pub IsChain : List (List ℕ) → ℕ → List ℕ → Type 0
IsChain area first [] = first ≡ 0
IsChain area first (ci ∷ rest) = (first ≡ ci) × (ci ≢ 0) × IsChain area (link_of (bytes_at area ci)) rest

-- the list holds this interval
abbrev pub Holds : List ℕ → ℕ → Type 0
Holds [] ci = ⊥
Holds (first ∷ rest) ci = (first ≡ ci) ⊎ Holds rest ci

-- it holds each of its intervals once
abbrev pub IsOnce : List ℕ → Type 0
IsOnce [] = ⊤
IsOnce (first ∷ rest) = (¬ Holds rest first) × IsOnce rest

-- an independent overflow interval with this owner: a unit of work's number plus 1, or 0
pub record IsOwned (shape : Shape) (area : List (List ℕ)) (owner ci : ℕ) : Type 0 where
  pub from : first_independent shape ≤ ci
  pub below : ci < length area
  pub owned : owner_of (bytes_at area ci) ≡ owner

-- the chain from `first` on is this list, which holds each independent overflow interval of this owner
-- once, and no other
pub record IsListOf (shape : Shape) (area : List (List ℕ)) (owner first : ℕ) (list : List ℕ) : Type 0 where
  pub chain : IsChain area first list
  pub once : IsOnce list
  pub owned : (ci : ℕ) → Holds list ci → IsOwned shape area owner ci
  pub each : (ci : ℕ) → IsOwned shape area owner ci → Holds list ci

-- there is such a list
pub record HasList (shape : Shape) (area : List (List ℕ)) (owner first : ℕ) : Type 0 where
  pub list : List ℕ
  pub is_list : IsListOf shape area owner first list

-- the lists of the units of work and the free chain hold each independent overflow interval once; those
-- in the free chain are empty
pub record AreListed (shape : Shape) (area : List (List ℕ)) : Type 0 where
  pub of_uow : (uow : ℕ) → uow < shape.uows → HasList shape area (uow + 1)
      (link_of (bytes_at area (first_base shape uow)))
  pub of_free : HasList shape area 0 (first_free area)
  pub owners : (ci : ℕ) → first_independent shape ≤ ci → ci < length area → owner_of (bytes_at area ci) ≤ shape.uows
  pub empty : (ci : ℕ) → IsOwned shape area 0 ci → IsEmpty (bytes_at area ci)

-- an interval stands there that has the kind of its place
pub record IsInPlace (shape : Shape) (area : List (List ℕ)) (ci : ℕ) : Type 0 where
  pub is_interval : IsInterval (bytes_at area ci)
  pub is_kind : kind_of (bytes_at area ci) ≡ kind_at shape ci

-- the area has the intervals that control counts, each in its place, and its lists are in order
pub record IsInOrder (shape : Shape) (area : List (List ℕ)) : Type 0 where
  pub whole : length area ≡ first_independent shape + counted area
  pub in_place : (ci : ℕ) → ci < length area → IsInPlace shape area ci
  pub listed : AreListed shape area
