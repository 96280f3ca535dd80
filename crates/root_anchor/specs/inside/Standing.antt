-- The elements in which an anchor's segments stand.
use Rattle.std.specs.Prelude.{◌≡◌, ℕ, ◌↔◌, ◌≢◌, List, map, reverse, Contains, AllPairs}
use Rattle.ci_space.specs.declared.intervals.Shape.{Shape}
use Rattle.fp_model.specs.declared.definitions.SegDef.{SegDef}
use Rattle.fp_model.specs.declared.database.Root.{Root}
use Rattle.fp_model.specs.Order.{key_in}
use Rattle.anchor_elements.specs.Elements.{Pointer, Segment, HasSegment}
use Rattle.root_anchor.specs.Chains.{IsChain}
use Rattle.root_anchor.specs.declared.standing.Standing.{Standing}

abbrev pub places_of : List Standing → List Pointer
places_of list = map (λ s. s.at) list

-- a segment of its type stands in it
pub record Stands (types : List SegDef) (area : List (List ℕ)) (s : Standing) : Type 0 where
  pub segment : Segment
  pub has : HasSegment types area s.segment s.at segment

-- these are all elements of an anchor's roots, each once, with their types
pub record AreStanding (shape : Shape) (types : List SegDef) (area : List (List ℕ)) (anchor : ℕ) (list : List Standing)
    : Type 0 where
  pub roots : List Root
  pub elements : List Pointer
  pub is_chain : IsChain shape types area anchor roots elements
  pub same : (at : Pointer) → Contains (places_of list) at ↔ Contains elements at
  pub once : AllPairs (λ a b. a ≢ b) (places_of list)
  pub typed : (s : Standing) → Contains list s → Stands types area s

-- they come in hierarchical order: as the pointers of an anchor meet them
pub record AreInTurn (shape : Shape) (types : List SegDef) (area : List (List ℕ)) (anchor : ℕ) (list : List Standing) :
    Type 0 where
  pub roots : List Root
  pub is_chain : IsChain shape types area anchor roots (reverse (places_of list))

-- each has its segment's key
abbrev pub AreKeyed : List SegDef → List (List ℕ) → List Standing → Type 0
AreKeyed types area list = (s : Standing) (segment : Segment) → Contains list s
    → HasSegment types area s.segment s.at segment → s.key ≡ key_in types s.segment segment.bytes
