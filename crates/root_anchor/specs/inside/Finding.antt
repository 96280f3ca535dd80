-- A segment that is looked for among those of an anchor.
use Rattle.std.specs.Prelude.{◌≡◌, ℕ, suc, List, ◌∷◌, length, false}
use Rattle.fp_model.specs.declared.definitions.SegDef.{SegDef}
use Rattle.fp_model.specs.declared.database.Node.{Node}
use Rattle.fp_model.specs.declared.database.Root.{Root}
use Rattle.fp_model.specs.Order.{child_types}
use Rattle.anchor_elements.specs.Elements.{Pointer, Segment, HasSegment, segment_length, has_serial}
use Rattle.anchor_elements.specs.Reading.{pointers_of}
use Rattle.root_anchor.specs.Chains.{AreRows, AreRoots}
use Rattle.root_anchor.specs.Differing.{RowsDifferIn}
use Rattle.root_anchor.specs.inside.Rebuilding.{IsDirect}
use Rattle.root_anchor.specs.declared.finding.Found.{Found}

-- the twin of this number from a pointer on, counted from 0, stands at a place and says this
pub data IsTwinAt (types : List SegDef) (area : List (List ℕ)) (type : ℕ) : Pointer → ℕ → Pointer → Segment → Type 0
  where
    this_twin : {at : Pointer} {s : Segment} → HasSegment types area type at s → IsTwinAt types area type at 0 at s
    twin_behind : {at place : Pointer} {k : ℕ} {t : Segment} (s : Segment) → HasSegment types area type at s
        → IsTwinAt types area type s.next k place t → IsTwinAt types area type at (suc k) place t

-- the pointers from these first ones on give these rows
pub record GiveRows (types : List SegDef) (area : List (List ℕ)) (kinds : List ℕ) (firsts : List Pointer)
    (rows : List (List Node)) : Type 0 where
  pub met : List Pointer
  pub after : List Pointer
  pub are : AreRows types area met kinds firsts rows after

-- the pointers from this first one on give this row
pub record GivesRow (types : List SegDef) (area : List (List ℕ)) (type : ℕ) (first : Pointer) (row : List Node) : Type 0
  where
    pub more : List ℕ
    pub firsts : List Pointer
    pub rows : List (List Node)
    pub are : GiveRows types area (type ∷ more) (first ∷ firsts) (row ∷ rows)

-- the pointers from this first one on give these roots
pub record GivesRoots (types : List SegDef) (area : List (List ℕ)) (first : Pointer) (roots : List Root) : Type 0 where
  pub met : List Pointer
  pub after : List Pointer
  pub are : AreRoots types area met first roots after

-- what an element that was found is to say
abbrev pub says_of : Found → Segment
says_of found = record {
  next = found.said.next;
  serial = found.serial;
  firsts = pointers_of found.said.firsts.items;
  bytes = found.bytes.now;
}

-- it fits its type
pub record FitsType (types : List SegDef) (found : Found) : Type 0 where
  pub direct : IsDirect types found.segment
  pub firsts : length found.said.firsts.items ≡ length (child_types types found.segment)
  pub bytes : length found.bytes.now ≡ segment_length types found.segment
  pub serial : has_serial types found.segment ≡ false → found.serial ≡ 0

-- the row at a first pointer differs from another in one segment, whatever rows follow it
pub record RowDiffersIn (types : List SegDef) (area : List (List ℕ)) (type : ℕ) (first : Pointer)
    (row other : List Node) (of_type : ℕ) (place : Pointer) (says : Segment) : Type 0 where
  pub whatever : (more : List ℕ) (firsts : List Pointer) (rows : List (List Node))
      → RowsDifferIn types area (type ∷ more) (first ∷ firsts) (row ∷ rows) (other ∷ rows) of_type place says
