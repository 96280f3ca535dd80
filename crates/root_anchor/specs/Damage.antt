-- Where the pointers from an anchor give no roots, and which interval is damaged then.
use Rattle.std.specs.Prelude.{◌≢◌, ℕ, List, [], ◌∷◌, Contains}
use Rattle.ci_space.specs.declared.intervals.Shape.{Shape}
use Rattle.ci_overflow.specs.Lists.{IsInPlace}
use Rattle.ci_overflow.specs.Places.{base_of}
use Rattle.fp_model.specs.declared.definitions.SegDef.{SegDef}
use Rattle.fp_model.specs.declared.database.Node.{Node}
use Rattle.fp_model.specs.Order.{child_types}
use Rattle.anchor_elements.specs.Elements.{Pointer, nothing, Segment, HasSegment}
use Rattle.anchor_elements.specs.Wrong.{IsWrong}
use Rattle.root_anchor.specs.Chains.{AreRows, root_of}

-- The pointers from these first ones on come to a wrong one, and this interval is damaged then. The interval `from`
-- holds the first of them, `home` the others.
pub data RowsFail (types : List SegDef) (area : List (List ℕ)) : List Pointer → ℕ → ℕ → List ℕ → List Pointer → ℕ
    → Type 0 where
  here : {met : List Pointer} {home from type : ℕ} {more : List ℕ} {at : Pointer} {firsts : List Pointer} {ci : ℕ}
      → at ≢ nothing
      → IsWrong types area met from type at ci
      → RowsFail types area met home from (type ∷ more) (at ∷ firsts) ci
  below : {met : List Pointer} {home from type : ℕ} {more : List ℕ} {at : Pointer} {firsts : List Pointer} {ci : ℕ}
      (s : Segment)
      → HasSegment types area type at s
      → ¬ Contains met at
      → RowsFail types area (at ∷ met) at.0 at.0 (child_types types type) s.firsts ci
      → RowsFail types area met home from (type ∷ more) (at ∷ firsts) ci
  at_twin : {met : List Pointer} {home from type : ℕ} {more : List ℕ} {at : Pointer} {firsts : List Pointer} {ci : ℕ}
      (s : Segment)
      {rows : List (List Node)} {between : List Pointer}
      → HasSegment types area type at s
      → ¬ Contains met at
      → AreRows types area (at ∷ met) (child_types types type) s.firsts rows between
      → RowsFail types area between home at.0 (type ∷ more) (s.next ∷ firsts) ci
      → RowsFail types area met home from (type ∷ more) (at ∷ firsts) ci
  next_row : {met : List Pointer} {home from type : ℕ} {more : List ℕ} {firsts : List Pointer} {ci : ℕ}
      → RowsFail types area met home home more firsts ci
      → RowsFail types area met home from (type ∷ more) (nothing ∷ firsts) ci

-- the same for roots
pub data RootsFail (types : List SegDef) (area : List (List ℕ)) : List Pointer → ℕ → Pointer → ℕ → Type 0 where
  root_here : {met : List Pointer} {from : ℕ} {at : Pointer} {ci : ℕ}
      → at ≢ nothing
      → IsWrong types area met from 0 at ci
      → RootsFail types area met from at ci
  below_root : {met : List Pointer} {from : ℕ} {at : Pointer} {ci : ℕ} (s : Segment)
      → HasSegment types area 0 at s
      → ¬ Contains met at
      → RowsFail types area (at ∷ met) at.0 at.0 (child_types types 0) s.firsts ci
      → RootsFail types area met from at ci
  next_root : {met : List Pointer} {from : ℕ} {at : Pointer} {ci : ℕ} (s : Segment) {rows : List (List Node)}
      {between : List Pointer}
      → HasSegment types area 0 at s
      → ¬ Contains met at
      → AreRows types area (at ∷ met) (child_types types 0) s.firsts rows between
      → RootsFail types area between at.0 s.next ci
      → RootsFail types area met from at ci

-- the pointers of an anchor give no roots, and this interval is damaged: the base interval where it isn't in its place
pub data ChainFails (shape : Shape) (types : List SegDef) (area : List (List ℕ)) (anchor : ℕ) : ℕ → Type 0 where
  no_base : ¬ IsInPlace shape area (base_of shape anchor) → ChainFails shape types area anchor (base_of shape anchor)
  wrong_pointer : {ci : ℕ} → IsInPlace shape area (base_of shape anchor)
      → RootsFail types area [] (base_of shape anchor) (root_of shape area anchor) ci
      → ChainFails shape types area anchor ci
