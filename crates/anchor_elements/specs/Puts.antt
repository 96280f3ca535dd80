-- What a segment that is put into an area changes.
use Rattle.std.specs.Prelude.{◌≡◌, ◌≢◌, ℕ, List, length}
use Rattle.ci_space.specs.Interval.{Keeps}
use Rattle.ci_overflow.specs.Lists.{bytes_at}
use Rattle.ci_overflow.specs.Rooms.{OnlyOneChanges}
use Rattle.fp_model.specs.declared.definitions.SegDef.{SegDef}
use Rattle.anchor_elements.specs.Elements.{Pointer, Segment, HasSegment}

-- a segment of this type is put into the used element at a pointer; every other element stays, and every head
pub record PutsSegment (types : List SegDef) (old new : List (List ℕ)) (type : ℕ) (at : Pointer) (segment : Segment) :
    Type 0 where
  pub stands : HasSegment types new type at segment
  pub others : OnlyOneChanges old new at.0 at.1
  pub head : Keeps (bytes_at old at.0) (bytes_at new at.0) 0 32
  pub elsewhere : (ci : ℕ) → ci ≢ at.0 → bytes_at new ci ≡ bytes_at old ci
  pub same_number : length new ≡ length old
