-- What the bytes of an area stand for: the roots of its anchors with their sequential dependents, and its ends.
use Rattle.std.specs.Prelude.{◌≡◌, ℕ, ◌<◌, ◌≤◌, List, [], ◌∷◌}
use Rattle.std.specs.List.{AllZip}
use Rattle.ci_overflow.specs.Places.{first_sequential, first_independent}
use Rattle.fp_model.specs.declared.database.Root.{Root}
use Rattle.fp_model.specs.declared.database.SeqItem.{SeqItem}
use Rattle.root_anchor.specs.Chains.{anchor_count}
use Rattle.root_anchor.specs.Formed.{IsFormed, HasRoots}
use Rattle.seq_dependents.specs.declared.part.Part.{Part}
use Rattle.seq_dependents.specs.Control.{IsControlOf, IsKept, begin_of, end_of}
use Rattle.seq_dependents.specs.Slots.{IsSequential, HasSerial, slot_of}
use Rattle.seq_dependents.specs.Down.{IsDown}
use Rattle.area_states.specs.declared.place.Place.{Place}
use Rattle.area_states.specs.Places.{part_of}

-- the roots of each anchor, counted from 0 within the area, and the ends
pub record AreaState : Type 0 where
  pub roots : ℕ → List Root
  pub begin : ℕ
  pub end : ℕ

-- ---- sequential lists

-- the newest serial of a sequential list; 0 where it is empty
abbrev pub newest_serial : List SeqItem → ℕ
newest_serial [] = 0
newest_serial (item ∷ items) = item.serial

-- A root that an anchor has, with its newest serial alone, stands for this root. Its sequential list is read from the
-- newest serial down, as long as serials are kept; so a newest serial below begin is an empty list. None is at or past
-- the end.
pub record IsReadAs (place : Place) (area : List (List ℕ)) (kept root : Root) : Type 0 where
  pub bytes : root.bytes ≡ kept.bytes
  pub children : root.children ≡ kept.children
  pub list : IsDown (part_of place) area (newest_serial kept.seqs) root.seqs
  pub before_end : newest_serial kept.seqs < end_of area

-- an anchor of the area has these roots, with their sequential lists
pub record HasAnchor (place : Place) (area : List (List ℕ)) (anchor : ℕ) (roots : List Root) : Type 0 where
  pub kept : List Root
  pub has : HasRoots place.shape place.segments area anchor kept
  pub lists : AllZip (IsReadAs place area) kept roots

-- A sequential part of which nothing is damaged: control with two ends that it may have, sequential intervals, and each
-- serial that is kept in its slot, behind an earlier one, also where no root leads to it any more.
pub record IsWholePart (part : Part) (area : List (List ℕ)) : Type 0 where
  pub control : IsControlOf part.capacity area
  pub in_place : (ci : ℕ) → first_sequential part.shape ≤ ci → ci < first_independent part.shape
      → IsSequential part area ci
  pub serials : (serial : ℕ) → IsKept area serial → HasSerial (slot_of part area serial) serial

-- ---- the area

-- The area is whole, and these are its roots and its ends.
pub record HasState (place : Place) (area : List (List ℕ)) (state : AreaState) : Type 0 where
  pub formed : IsFormed place.shape place.segments area
  pub whole : IsWholePart (part_of place) area
  pub begin : begin_of area ≡ state.begin
  pub end : end_of area ≡ state.end
  pub anchors : (anchor : ℕ) → anchor < anchor_count place.shape → HasAnchor place area anchor (state.roots anchor)

-- two states with the same roots of each anchor and the same ends
pub record SameState (place : Place) (a b : AreaState) : Type 0 where
  pub roots : (anchor : ℕ) → anchor < anchor_count place.shape → a.roots anchor ≡ b.roots anchor
  pub begin : a.begin ≡ b.begin
  pub end : a.end ≡ b.end
