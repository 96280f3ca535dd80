-- The roots of an anchor, one by one along their next twins.
use Rattle.std.specs.Prelude.{◌≡◌, ◌≢◌, ℕ, suc, ◌≤◌, List, []}
use Rattle.ci_space.specs.declared.intervals.Shape.{Shape}
use Rattle.ci_overflow.specs.Lists.{IsInPlace}
use Rattle.ci_overflow.specs.Places.{base_of}
use Rattle.fp_model.specs.declared.definitions.SegDef.{SegDef}
use Rattle.anchor_elements.specs.Elements.{Pointer, nothing, Segment, HasSegment}
use Rattle.anchor_elements.specs.Wrong.{IsWrong}
use Rattle.root_anchor.specs.Chains.{root_of}
use Rattle.root_anchor.specs.declared.places.RootPlace.{RootPlace}

-- the root of this number, counted from 0 on from this pointer, stands at a place and says this
pub data IsRootAt (types : List SegDef) (area : List (List ℕ)) : Pointer → ℕ → Pointer → Segment → Type 0 where
  this_root : {at : Pointer} {s : Segment} → HasSegment types area 0 at s → IsRootAt types area at 0 at s
  later_root : {at place : Pointer} {k : ℕ} {t : Segment} (s : Segment) → HasSegment types area 0 at s
      → IsRootAt types area s.next k place t → IsRootAt types area at (suc k) place t

-- from this pointer on there are just so many roots
pub data AreSoMany (types : List SegDef) (area : List (List ℕ)) : Pointer → ℕ → Type 0 where
  no_more : AreSoMany types area nothing 0
  one_more : {at : Pointer} {k : ℕ} (s : Segment) → HasSegment types area 0 at s → AreSoMany types area s.next k
      → AreSoMany types area at (suc k)

-- the pointer in the interval `from`, or one of a root to the next behind it, is wrong, and this interval is damaged
pub data TwinsFail (types : List SegDef) (area : List (List ℕ)) : ℕ → Pointer → ℕ → Type 0 where
  fails_here : {from : ℕ} {at : Pointer} {ci : ℕ} → at ≢ nothing → IsWrong types area [] from 0 at ci
      → TwinsFail types area from at ci
  fails_later : {from : ℕ} {at : Pointer} {ci : ℕ} (s : Segment) → HasSegment types area 0 at s
      → TwinsFail types area at.0 s.next ci → TwinsFail types area from at ci

-- an anchor's root of this number stands there, and this is its newest serial
pub record HasRootAt (shape : Shape) (types : List SegDef) (area : List (List ℕ)) (anchor number : ℕ) (place :
    RootPlace)
    : Type 0 where
  pub segment : Segment
  pub is_root : IsRootAt types area (root_of shape area anchor) number (place.ci, place.at) segment
  pub newest : segment.serial ≡ place.newest

-- an anchor has no root of this number: it has fewer
pub record HasFewer (shape : Shape) (types : List SegDef) (area : List (List ℕ)) (anchor number : ℕ) : Type 0 where
  pub count : ℕ
  pub are : AreSoMany types area (root_of shape area anchor) count
  pub fewer : count ≤ number

-- an anchor's pointers from root to root come to a wrong one, or its base interval isn't in its place
pub data RootsAreBroken (shape : Shape) (types : List SegDef) (area : List (List ℕ)) (anchor : ℕ) : ℕ → Type 0 where
  base_is_none : ¬ IsInPlace shape area (base_of shape anchor) → RootsAreBroken shape types area anchor (base_of shape
      anchor)
  twin_is_wrong : {ci : ℕ} → IsInPlace shape area (base_of shape anchor)
      → TwinsFail types area (base_of shape anchor) (root_of shape area anchor) ci
      → RootsAreBroken shape types area anchor ci
