-- The roots that the pointers from an anchor give, with all below them.
use Rattle.std.specs.Prelude.{ℕ, ◌*◌, List, [], ◌∷◌, ◌==◌, if◌then◌else◌, Contains}
use Rattle.ci_space.specs.declared.intervals.Shape.{Shape}
use Rattle.ci_space.specs.Head.{head_of}
use Rattle.ci_overflow.specs.Lists.{bytes_at, IsInPlace}
use Rattle.ci_overflow.specs.Places.{base_of}
use Rattle.fp_model.specs.declared.definitions.SegDef.{SegDef}
use Rattle.fp_model.specs.declared.database.Node.{Node, roll-Node}
use Rattle.fp_model.specs.declared.database.Root.{Root}
use Rattle.fp_model.specs.declared.database.SeqItem.{SeqItem}
use Rattle.fp_model.specs.Order.{child_types}
use Rattle.anchor_elements.specs.Elements.{Pointer, nothing, Segment, HasSegment}

-- The segments of these types, one row for each, that the pointers give from these first ones on, each with all below
-- it. `met` are the elements that were met before, `after` those met then, the last first; none is met twice. An
-- element comes before those below it, and these before its next twin.
pub data AreRows (types : List SegDef) (area : List (List ℕ)) : List Pointer → List ℕ → List Pointer → List (List Node)
    → List Pointer → Type 0 where
  no_row : {met : List Pointer} → AreRows types area met [] [] [] met
  -- the row of a type ends where a pointer points to nothing
  row_end : {met : List Pointer} {type : ℕ} {more : List ℕ} {firsts : List Pointer} {rows : List (List Node)}
      {after : List Pointer}
      → AreRows types area met more firsts rows after
      → AreRows types area met (type ∷ more) (nothing ∷ firsts) ([] ∷ rows) after
  -- a segment, what is below it, and on from its next twin
  segment : {met : List Pointer} {type : ℕ} {more : List ℕ} {at : Pointer} {firsts : List Pointer} (s : Segment)
      {below : List (List Node)} {between : List Pointer} {row : List Node} {rows : List (List Node)}
      {after : List Pointer}
      → HasSegment types area type at s
      → ¬ Contains met at
      → AreRows types area (at ∷ met) (child_types types type) s.firsts below between
      → AreRows types area between (type ∷ more) (s.next ∷ firsts) (row ∷ rows) after
      → AreRows types area met (type ∷ more) (at ∷ firsts)
      ((roll-Node (record { bytes = s.bytes; children = below }) ∷ row) ∷ rows) after

-- a newest serial as a root's sequential list: an item without bytes, and none for 0
abbrev pub newest : ℕ → List SeqItem
newest serial = if serial == 0 then [] else record { serial = serial; bytes = [] } ∷ []

-- the roots that the pointers give from this one on
pub data AreRoots (types : List SegDef) (area : List (List ℕ)) : List Pointer → Pointer → List Root → List Pointer
    → Type 0 where
  no_root : {met : List Pointer} → AreRoots types area met nothing [] met
  root : {met : List Pointer} {at : Pointer} (s : Segment) {below : List (List Node)} {between : List Pointer}
      {roots : List Root} {after : List Pointer}
      → HasSegment types area 0 at s
      → ¬ Contains met at
      → AreRows types area (at ∷ met) (child_types types 0) s.firsts below between
      → AreRoots types area between s.next roots after
      → AreRoots types area met at (record { bytes = s.bytes; children = below; seqs = newest s.serial } ∷ roots) after

-- how many anchors an area has
abbrev pub anchor_count : Shape → ℕ
anchor_count shape = shape.uows * shape.base

-- the root anchor point of an anchor
abbrev pub root_of : Shape → List (List ℕ) → ℕ → Pointer
root_of shape area anchor = (head_of (bytes_at area (base_of shape anchor))).root

-- these are the roots of an anchor, and they stand in these elements
pub record IsChain (shape : Shape) (types : List SegDef) (area : List (List ℕ)) (anchor : ℕ) (roots : List Root)
    (elements : List Pointer) : Type 0 where
  pub base : IsInPlace shape area (base_of shape anchor)
  pub are_roots : AreRoots types area [] (root_of shape area anchor) roots elements
