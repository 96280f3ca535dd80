-- Which interval is at fault where an anchor's chain stands and the lists of its area aren't in order.
use Rattle.std.specs.Prelude.{ℕ, List, Contains}
use Rattle.ci_space.specs.declared.intervals.Shape.{Shape}
use Rattle.ci_overflow.specs.Freed.{TakesBack}
use Rattle.ci_overflow.specs.Rooms.{TakesRoom}
use Rattle.ci_overflow.specs.Faults.{IsAtFault}
use Rattle.fp_model.specs.declared.definitions.SegDef.{SegDef}
use Rattle.fp_model.specs.declared.database.Root.{Root}
use Rattle.anchor_elements.specs.Elements.{Pointer}
use Rattle.root_anchor.specs.Chains.{IsChain}

-- An area comes to another one: elements are given back, each one of these, and room is taken for an anchor.
pub data ComesTo (shape : Shape) (anchor : ℕ) (elements : List Pointer) : List (List ℕ) → List (List ℕ) → Type 0 where
  as_it_is : (area : List (List ℕ)) → ComesTo shape anchor elements area area
  given_back : (old now new : List (List ℕ)) (at : Pointer) → ComesTo shape anchor elements old now
      → Contains elements at → TakesBack shape now new at.0 at.1 → ComesTo shape anchor elements old new
  room_taken : (old now new : List (List ℕ)) (n : ℕ) (at : Pointer) → ComesTo shape anchor elements old now
      → TakesRoom shape now new anchor n at → ComesTo shape anchor elements old new

-- the interval `ci` is at fault in this area or in one that it comes to
pub record FaultComes (shape : Shape) (anchor : ℕ) (elements : List Pointer) (area : List (List ℕ)) (ci : ℕ) : Type 0
  where
    pub later : List (List ℕ)
    pub comes : ComesTo shape anchor elements area later
    pub at_fault : IsAtFault shape later ci

-- An anchor's chain stands, and the interval `ci` is at fault in the area as it is, or as it becomes where elements of
-- the anchor are given back and room is taken for it.
pub record ListsFail (shape : Shape) (types : List SegDef) (area : List (List ℕ)) (anchor ci : ℕ) : Type 0 where
  pub roots : List Root
  pub elements : List Pointer
  pub is_chain : IsChain shape types area anchor roots elements
  pub fault : FaultComes shape anchor elements area ci
