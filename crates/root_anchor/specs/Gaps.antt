-- A segment that an anchor's roots lack: the pointer that is to lead to it, and what the pointers give once it does.
use Rattle.std.specs.Prelude.{◌≡◌, ◌≢◌, ◌⊎◌, ℕ, ◌+◌, ◌≤◌, List, length, Contains}
use Rattle.ci_space.specs.declared.intervals.Shape.{Shape}
use Rattle.ci_overflow.specs.Lists.{bytes_at}
use Rattle.ci_space.specs.Interval.{IsUsed}
use Rattle.ci_overflow.specs.Places.{base_of, first_base, uow_of}
use Rattle.ci_overflow.specs.Rooms.{IsFirstPlace, IsOwnRoom}
use Rattle.fp_model.specs.declared.definitions.SegDef.{SegDef}
use Rattle.anchor_elements.specs.Elements.{Pointer, Segment, HasSegment, content_length}
use Rattle.root_anchor.specs.Formed.{Meets}

-- ---- what changes where a segment comes

-- an element of an anchor's segments stands in this interval
pub record HoldsElement (shape : Shape) (types : List SegDef) (area : List (List ℕ)) (anchor ci : ℕ) : Type 0 where
  pub at : Pointer
  pub is_met : Meets shape types area anchor at
  pub is_there : at.0 ≡ ci

-- At most four intervals change. One that comes to the area is one of these: it had no bytes.
pub record FewChange (old new : List (List ℕ)) : Type 0 where
  pub changed : List ℕ
  pub few : length changed ≤ 4
  pub others : (ci : ℕ) → ¬ Contains changed ci → bytes_at new ci ≡ bytes_at old ci

-- One segment more has come. Its element is new, in the first place of the stated order that has room, and in the
-- anchor's own unit of work. Only these intervals change: control, the unit's first base interval, that of the element,
-- and that of the pointer to it, which is the root anchor point or in an element of the anchor. At most one is added.
pub record AddsOne (shape : Shape) (types : List SegDef) (old new : List (List ℕ)) (anchor : ℕ) : Type 0 where
  pub type : ℕ
  pub element : Pointer
  pub holder : ℕ
  pub fresh : ¬ IsUsed (bytes_at old element.0) element.1
  pub used : IsUsed (bytes_at new element.0) element.1
  pub place : IsFirstPlace shape old anchor (content_length types type) element.0
  pub own : IsOwnRoom shape new anchor element.0
  pub holds : (holder ≡ base_of shape anchor) ⊎ HoldsElement shape types old anchor holder
  pub others : (ci : ℕ) → ci ≢ 0 → ci ≢ first_base shape (uow_of shape anchor) → ci ≢ element.0 → ci ≢ holder
      → bytes_at new ci ≡ bytes_at old ci
  pub one_more : length new ≤ length old + 1

-- A segment stands in its element still, with its bytes and its newest serial: only pointers may be others.
pub record StaysIn (types : List SegDef) (new : List (List ℕ)) (type : ℕ) (at : Pointer) (s : Segment) : Type 0 where
  pub now : Segment
  pub has : HasSegment types new type at now
  pub same_bytes : now.bytes ≡ s.bytes
  pub same_serial : now.serial ≡ s.serial

-- each segment of an area does
pub record SegmentsStay (types : List SegDef) (old new : List (List ℕ)) : Type 0 where
  pub stay : (type : ℕ) (at : Pointer) (s : Segment) → HasSegment types old type at s → StaysIn types new type at s
