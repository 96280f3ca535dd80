-- An area that is whole: its intervals, its overflow lists, and the elements of its anchors.
use Rattle.std.specs.Prelude.{◌≡◌, ◌⊎◌, ℕ, ◌<◌, List, Contains}
use Rattle.ci_space.specs.declared.intervals.Shape.{Shape}
use Rattle.ci_space.specs.Interval.{IsUsed}
use Rattle.ci_overflow.specs.Lists.{bytes_at, IsInOrder}
use Rattle.ci_overflow.specs.Rooms.{IsOwnRoom}
use Rattle.fp_model.specs.declared.definitions.SegDef.{SegDef}
use Rattle.fp_model.specs.declared.database.Root.{Root}
use Rattle.anchor_elements.specs.Elements.{Pointer}
use Rattle.root_anchor.specs.Chains.{IsChain, anchor_count}

-- an anchor has these roots
pub record HasRoots (shape : Shape) (types : List SegDef) (area : List (List ℕ)) (anchor : ℕ) (roots : List Root) : Type
    0 where
  pub elements : List Pointer
  pub is_chain : IsChain shape types area anchor roots elements

-- an anchor's chain stands: it has some roots, maybe none, in some elements
pub record HasChain (shape : Shape) (types : List SegDef) (area : List (List ℕ)) (anchor : ℕ) : Type 0 where
  pub roots : List Root
  pub elements : List Pointer
  pub is_chain : IsChain shape types area anchor roots elements

-- the pointers of an anchor meet this element
pub record Meets (shape : Shape) (types : List SegDef) (area : List (List ℕ)) (anchor : ℕ) (at : Pointer) : Type 0 where
  pub roots : List Root
  pub elements : List Pointer
  pub is_chain : IsChain shape types area anchor roots elements
  pub met : Contains elements at

-- an anchor of the area meets this element
pub record IsMet (shape : Shape) (types : List SegDef) (area : List (List ℕ)) (at : Pointer) : Type 0 where
  pub anchor : ℕ
  pub below : anchor < anchor_count shape
  pub meets : Meets shape types area anchor at

-- Each interval that control counts is one and has the kind of its place, the overflow lists are in order, and exactly
-- one pointer leads to each used element: the pointers of each anchor give roots, no element is met from two anchors,
-- and each used element is met.
pub record IsFormed (shape : Shape) (types : List SegDef) (area : List (List ℕ)) : Type 0 where
  pub in_order : IsInOrder shape area
  pub chains : (anchor : ℕ) → anchor < anchor_count shape → HasChain shape types area anchor
  pub apart : (anchor other : ℕ) (at : Pointer) → anchor < anchor_count shape → other < anchor_count shape
      → Meets shape types area anchor at → Meets shape types area other at → anchor ≡ other
  pub each_met : (at : Pointer) → IsUsed (bytes_at area at.0) at.1 → IsMet shape types area at

-- Each element of an anchor was one before, or it stands in the anchor's own unit of work.
pub record NewAreOwn (shape : Shape) (types : List SegDef) (old new : List (List ℕ)) (anchor : ℕ) : Type 0 where
  pub each : (at : Pointer) → Meets shape types new anchor at
      → Meets shape types old anchor at ⊎ IsOwnRoom shape new anchor at.0
