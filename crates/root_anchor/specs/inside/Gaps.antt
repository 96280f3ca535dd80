-- What bodies and proofs need of Gaps, beside what contracts say.
use Rattle.std.specs.Prelude.{◌≡◌, ◌≢◌, ◌⊎◌, ℕ, ◌+◌, ◌<◌, ◌≤◌, List, [], ◌∷◌, length, slice_get, Some, set, replicate, Contains, true, false}
use Rattle.ci_space.specs.declared.intervals.Shape.{Shape}
use Rattle.ci_overflow.specs.Lists.{bytes_at, IsInOrder}
use Rattle.ci_overflow.specs.Places.{first_base, uow_of}
use Rattle.ci_overflow.specs.Rooms.{IsFirstPlace, IsOwnRoom}
use Rattle.fp_model.specs.declared.definitions.SegDef.{SegDef}
use Rattle.fp_model.specs.declared.database.Node.{Node}
use Rattle.fp_model.specs.declared.database.Root.{Root}
use Rattle.fp_model.specs.Order.{child_types}
use Rattle.anchor_elements.specs.Elements.{Pointer, nothing, Segment, HasSegment, content_length, segment_length, has_serial}
use Rattle.anchor_elements.specs.Puts.{PutsSegment}
use Rattle.anchor_elements.specs.Reading.{segment_of, pointers_of}
use Rattle.anchor_elements.specs.declared.element.First.{First}
use Rattle.root_changes.specs.Differing.{DifferAt}
use Rattle.root_changes.specs.Gaining.{RowGains}
use Rattle.root_anchor.specs.declared.gaps.Link.{Link}
use Rattle.root_anchor.specs.declared.gaps.Link.TheVariants.{Next, FirstChild}
use Rattle.root_anchor.specs.declared.gaps.Holder.{Holder}
use Rattle.root_anchor.specs.declared.gaps.Added.{Added}
use Rattle.root_anchor.specs.declared.gaps.Gap.{Gap}
use Rattle.root_anchor.specs.declared.standing.Standing.{Standing}
use Rattle.root_anchor.specs.Chains.{AreRows, AreRoots, newest}
use Rattle.root_anchor.specs.Gaps.{AddsOne, FewChange, SegmentsStay}
use Rattle.root_anchor.specs.inside.Finding.{IsTwinAt}
use Rattle.root_anchor.specs.inside.Puts.{PutsRoot}
use Rattle.root_anchor.specs.inside.Rebuilding.{Exchanges, IsDirect, Rebuilds}
use Rattle.root_anchor.specs.inside.Standing.{AreStanding}
use Rattle.root_anchor.specs.inside.Stored.{row_has_form}

-- ---- what changes where a segment comes

-- The elements of an anchor's segments give way to those of these roots, and none is given back before room is looked
-- for.
pub record Refills (shape : Shape) (types : List SegDef) (old new : List (List ℕ)) (anchor : ℕ) (roots : List Root) :
    Type 0 where
  pub all : List Standing
  pub standing : AreStanding shape types old anchor all
  pub rebuilds : Rebuilds shape types old new anchor [] all roots

-- One segment more has come to an anchor, which has these roots then.
pub record Grows (shape : Shape) (types : List SegDef) (old new : List (List ℕ)) (anchor : ℕ) (roots : List Root) :
    Type 0 where
  pub refills : Refills shape types old new anchor roots
  pub few : FewChange old new
  pub stay : SegmentsStay types old new
  pub one : AddsOne shape types old new anchor

-- ---- a row that gains one segment

-- the first child of a child type, by its place, and the row of that type as it is to be
pub record IsFirstAt (types : List SegDef) (parent : ℕ) (firsts : List First) (others : List (List Node)) (j : ℕ)
    (first : First) (other : List Node) : Type 0 where
  pub kind : slice_get (child_types types parent) j ≡ Some first.segment
  pub pointer : slice_get (pointers_of firsts) j ≡ Some first.at
  pub above : parent < first.segment
  pub direct : IsDirect types first.segment
  pub form : row_has_form types first.segment other ≡ true

-- there is a row of this number
pub record HaveRow (firsts : List First) (rows others : List (List Node)) (number : ℕ) : Type 0 where
  pub in_firsts : number < length firsts
  pub in_rows : number < length rows
  pub in_others : number < length others

-- the row of this number alone changes: one segment more comes to it
pub record IsRowAt (types : List SegDef) (parent : ℕ) (firsts : List First) (rows others : List (List Node))
    (number : ℕ) (first : First) (row other : List Node) : Type 0 where
  pub it : IsFirstAt types parent firsts others number first other
  pub at : DifferAt rows others number row other
  pub gains : RowGains row other

-- ---- a gap

-- what an element says of which one pointer leads there
abbrev pub linked : Link → Pointer → Segment → Segment
linked Next at s = record s { next = at }
linked (FirstChild number) at s = record s { firsts = set s.firsts number at }

-- what the holder of the pointer says once it leads there
abbrev pub links_to : Holder → Pointer → Segment
links_to holder at = linked holder.link at (segment_of holder.said)

-- what the segment says that comes, with none below it
abbrev pub says_added : List SegDef → Added → Segment
says_added types added = record {
  next = added.next;
  serial = added.serial;
  firsts = replicate (length (child_types types added.segment)) nothing;
  bytes = added.bytes.now;
}

-- The segment of a gap stands in a new element, the pointer leads there, and every other segment stays.
pub record Fills (types : List SegDef) (old new : List (List ℕ)) (gap : Gap) (at : Pointer) : Type 0 where
  pub none_before : (type : ℕ) (s : Segment) → ¬ HasSegment types old type at s
  pub stands : HasSegment types new gap.added.segment at (says_added types gap.added)
  pub links : HasSegment types new gap.holder.segment gap.holder.at (links_to gap.holder at)
  pub others : (type : ℕ) (p : Pointer) (s : Segment) → p ≢ gap.holder.at → HasSegment types old type p s
      → HasSegment types new type p s

-- one element more was met
pub record MeetsOneMore (at : Pointer) (was now : List Pointer) : Type 0 where
  pub keep : (p : Pointer) → Contains was p → Contains now p
  pub only : (p : Pointer) → Contains now p → (p ≡ at) ⊎ Contains was p
  pub is_met : Contains now at

-- the segment in this place says what it said, but maybe for a pointer to a first child, and has these rows below it
pub record HasBelow (types : List SegDef) (new : List (List ℕ)) (gap : Gap) (at : Pointer) (type : ℕ) (place : Pointer)
    (said : Segment) (met : List Pointer) (rows : List (List Node)) (after : List Pointer) : Type 0 where
  pub firsts : List Pointer
  pub has : HasSegment types new type place (record said { firsts = firsts })
  pub now : List Pointer
  pub are : AreRows types new (place ∷ met) (child_types types type) firsts rows now
  pub more : MeetsOneMore at after now
  pub apart : ¬ Contains met gap.holder.at
  pub holder_met : Contains after gap.holder.at

-- Below the segment in this place these others stand in the place of these rows, whichever area fills the gap.
pub record IsGapBelow (types : List SegDef) (area : List (List ℕ)) (type : ℕ) (place : Pointer)
    (rows others : List (List Node)) (gap : Gap) : Type 0 where
  pub there : HasSegment types area gap.holder.segment gap.holder.at (segment_of gap.holder.said)
  pub fills : (new : List (List ℕ)) (at : Pointer) → Fills types area new gap at → (s : Segment)
      → HasSegment types area type place s → (met after : List Pointer) → ¬ Contains met place → ¬ Contains met at
      → AreRows types area (place ∷ met) (child_types types type) s.firsts rows after
      → HasBelow types new gap at type place s met others after

-- the gap behind the twin of this number, counted from 0 from this pointer on
pub record IsGapBehind (types : List SegDef) (area : List (List ℕ)) (type : ℕ) (first : Pointer) (number serial : ℕ)
    (bytes : List ℕ) (gap : Gap) : Type 0 where
  pub twin : IsTwinAt types area type first number gap.holder.at (segment_of gap.holder.said)
  pub is_type : gap.holder.segment ≡ type
  pub is_link : gap.holder.link ≡ Next
  pub added_type : gap.added.segment ≡ type
  pub added_next : gap.added.next ≡ (segment_of gap.holder.said).next
  pub added_serial : gap.added.serial ≡ serial
  pub added_bytes : gap.added.bytes.now ≡ bytes

-- the pointer to a first root leads to these
pub record HasThese (types : List SegDef) (new : List (List ℕ)) (gap : Gap) (at first : Pointer) (roots : List Root)
    (after : List Pointer) : Type 0 where
  pub now : List Pointer
  pub are : AreRoots types new [] first roots now
  pub more : MeetsOneMore at after now
  pub holder_met : Contains after gap.holder.at

-- From this pointer on these others stand in the place of these roots, whichever area fills the gap.
pub record IsGapInRoots (types : List SegDef) (area : List (List ℕ)) (first : Pointer) (roots others : List Root)
    (gap : Gap) : Type 0 where
  pub there : HasSegment types area gap.holder.segment gap.holder.at (segment_of gap.holder.said)
  pub fills : (new : List (List ℕ)) (at : Pointer) → Fills types area new gap at → (after : List Pointer)
      → AreRoots types area [] first roots after → HasThese types new gap at first others after

-- a segment that is to come fits its type, and so does what the holder of the pointer to it says
pub record FitsAdded (types : List SegDef) (added : Added) : Type 0 where
  pub direct : IsDirect types added.segment
  pub bytes : length added.bytes.now ≡ segment_length types added.segment
  pub serial : has_serial types added.segment ≡ false → added.serial ≡ 0

pub record FitsHolder (types : List SegDef) (holder : Holder) : Type 0 where
  pub direct : IsDirect types holder.segment
  pub firsts : length holder.said.firsts.items ≡ length (child_types types holder.segment)
  pub bytes : length holder.said.bytes ≡ segment_length types holder.segment
  pub serial : has_serial types holder.segment ≡ false → holder.said.serial ≡ 0

pub record FitsGap (types : List SegDef) (gap : Gap) : Type 0 where
  pub added : FitsAdded types gap.added
  pub holder : FitsHolder types gap.holder

-- ---- a segment that came

-- it stands in a new element, and only control, the first base interval of the unit of work and the interval of the
-- element change
pub record Adds (shape : Shape) (types : List SegDef) (old new : List (List ℕ)) (anchor : ℕ) (added : Added)
    (at : Pointer) : Type 0 where
  pub exchange : Exchanges shape old new [] (at ∷ [])
  pub has : HasSegment types new added.segment at (says_added types added)
  pub named : (ci : ℕ) → ci ≢ 0 → ci ≢ first_base shape (uow_of shape anchor) → ci ≢ at.0
      → bytes_at new ci ≡ bytes_at old ci
  pub place : IsInOrder shape old → IsFirstPlace shape old anchor (content_length types added.segment) at.0
  pub own : IsOwnRoom shape new anchor at.0
  pub one_more : length new ≤ length old + 1

-- the segment of a gap came, and then the pointer leads to it
pub record AddsBehind (shape : Shape) (types : List SegDef) (old new : List (List ℕ)) (anchor : ℕ) (gap : Gap) : Type 0
  where
    pub at : Pointer
    pub middle : List (List ℕ)
    pub adds : Adds shape types old middle anchor gap.added at
    pub put : PutsSegment types middle new gap.holder.segment gap.holder.at (links_to gap.holder at)

-- a root came in front of the one to which this pointer leads, and then the root anchor point leads to it
pub record AddsInFront (shape : Shape) (types : List SegDef) (old new : List (List ℕ)) (anchor : ℕ) (first : Pointer)
    (root : Root) : Type 0 where
  pub added : Added
  pub is_root : added.segment ≡ 0
  pub is_next : added.next ≡ first
  pub is_newest : newest added.serial ≡ root.seqs
  pub has_bytes : added.bytes.now ≡ root.bytes
  pub at : Pointer
  pub middle : List (List ℕ)
  pub adds : Adds shape types old middle anchor added at
  pub put : PutsRoot shape middle new anchor at
