-- The element of the segment in which two lists of an anchor's roots differ.
use Rattle.std.specs.Prelude.{◌≡◌, ℕ, List, ◌∷◌}
use Rattle.ci_space.specs.declared.intervals.Shape.{Shape}
use Rattle.fp_model.specs.declared.definitions.SegDef.{SegDef}
use Rattle.fp_model.specs.declared.database.Node.{Node, out-Node}
use Rattle.fp_model.specs.declared.database.Root.{Root}
use Rattle.fp_model.specs.Order.{child_types}
use Rattle.anchor_elements.specs.Elements.{Pointer, Segment, HasSegment}
use Rattle.anchor_elements.specs.Puts.{PutsSegment}
use Rattle.root_changes.specs.Differing.{HaveSameOwn}
use Rattle.root_anchor.specs.Chains.{newest, root_of}

-- Of the rows that the pointers from these first ones on give, these others differ in one segment, of this type: it
-- stands in this element, which is to say this instead.
pub data RowsDifferIn (types : List SegDef) (area : List (List ℕ)) : List ℕ → List Pointer → List (List Node)
    → List (List Node) → ℕ → Pointer → Segment → Type 0 where
  this_segment : {type : ℕ} {more : List ℕ} {at : Pointer} {firsts : List Pointer} {x y : Node} {row : List Node}
      {rows : List (List Node)} (s : Segment)
      → HasSegment types area type at s
      → (out-Node x).children ≡ (out-Node y).children
      → RowsDifferIn types area (type ∷ more) (at ∷ firsts) ((x ∷ row) ∷ rows) ((y ∷ row) ∷ rows) type at
      (record s { bytes = (out-Node y).bytes })
  below_segment : {type : ℕ} {more : List ℕ} {at : Pointer} {firsts : List Pointer} {x y : Node} {row : List Node}
      {rows : List (List Node)} {of_type : ℕ} {place : Pointer} {says : Segment} (s : Segment)
      → HasSegment types area type at s
      → (out-Node x).bytes ≡ (out-Node y).bytes
      → RowsDifferIn types area (child_types types type) s.firsts (out-Node x).children (out-Node y).children of_type
      place says
      → RowsDifferIn types area (type ∷ more) (at ∷ firsts) ((x ∷ row) ∷ rows) ((y ∷ row) ∷ rows) of_type place says
  behind_twin : {type : ℕ} {more : List ℕ} {at : Pointer} {firsts : List Pointer} {x : Node} {row other : List Node}
      {rows others : List (List Node)} {of_type : ℕ} {place : Pointer} {says : Segment} (s : Segment)
      → HasSegment types area type at s
      → RowsDifferIn types area (type ∷ more) (s.next ∷ firsts) (row ∷ rows) (other ∷ others) of_type place says
      → RowsDifferIn types area (type ∷ more) (at ∷ firsts) ((x ∷ row) ∷ rows) ((x ∷ other) ∷ others) of_type place says
  behind_row : {type : ℕ} {more : List ℕ} {at : Pointer} {firsts : List Pointer} {row : List Node}
      {rows others : List (List Node)} {of_type : ℕ} {place : Pointer} {says : Segment}
      → RowsDifferIn types area more firsts rows others of_type place says
      → RowsDifferIn types area (type ∷ more) (at ∷ firsts) (row ∷ rows) (row ∷ others) of_type place says

-- the same for roots
pub data RootsDifferIn (types : List SegDef) (area : List (List ℕ)) : Pointer → List Root → List Root → ℕ → Pointer
    → Segment → Type 0 where
  this_root : {at : Pointer} {x y : Root} {roots : List Root} {serial : ℕ} (s : Segment)
      → HasSegment types area 0 at s
      → x.children ≡ y.children
      → newest serial ≡ y.seqs
      → RootsDifferIn types area at (x ∷ roots) (y ∷ roots) 0 at (record s { serial = serial; bytes = y.bytes })
  below_root : {at : Pointer} {x y : Root} {roots : List Root} {of_type : ℕ} {place : Pointer} {says : Segment}
      (s : Segment)
      → HasSegment types area 0 at s
      → HaveSameOwn x y
      → RowsDifferIn types area (child_types types 0) s.firsts x.children y.children of_type place says
      → RootsDifferIn types area at (x ∷ roots) (y ∷ roots) of_type place says
  behind_root : {at : Pointer} {x : Root} {roots others : List Root} {of_type : ℕ} {place : Pointer} {says : Segment}
      (s : Segment)
      → HasSegment types area 0 at s
      → RootsDifferIn types area s.next roots others of_type place says
      → RootsDifferIn types area at (x ∷ roots) (x ∷ others) of_type place says

-- Of an area just one element changes: that of the segment in which these two lists of an anchor's roots differ says it
-- as the second has it. Every other element stays, every other interval, and none is added.
pub record ChangesAlone (shape : Shape) (types : List SegDef) (old new : List (List ℕ)) (anchor : ℕ)
    (before after : List Root) : Type 0 where
  pub type : ℕ
  pub place : Pointer
  pub says : Segment
  pub is_there : RootsDifferIn types old (root_of shape old anchor) before after type place says
  pub puts : PutsSegment types old new type place says
