-- Segments that keep their elements where an anchor is stored.
use Rattle.std.specs.Prelude.{◌≡◌, ℕ, List, [], ◌∷◌, ◌++◌, map, flat_map}
use Rattle.ci_space.specs.declared.intervals.Shape.{Shape}
use Rattle.fp_model.specs.declared.definitions.SegDef.{SegDef}
use Rattle.fp_model.specs.declared.database.Node.{Node}
use Rattle.fp_model.specs.declared.database.Node.TheOpen.{Node-F}
use Rattle.fp_model.specs.declared.database.Node.TheFolds.{fold-Node}
use Rattle.fp_model.specs.declared.database.Root.{Root}
use Rattle.fp_model.specs.Order.{child_types, key_in}
use Rattle.anchor_elements.specs.Elements.{Pointer}
use Rattle.root_anchor.specs.Chains.{IsChain}

-- ---- the type and the key of each segment, in hierarchical order

abbrev pub keys_in_rows : List ℕ → List (List (ℕ → List (ℕ × List ℕ))) → List (ℕ × List ℕ)
keys_in_rows [] rows = []
keys_in_rows (type ∷ more) [] = []
keys_in_rows (type ∷ more) (row ∷ rows) = flat_map (λ node. node type) row ++ keys_in_rows more rows

abbrev pub keys_step : List SegDef → Node-F (ℕ → List (ℕ × List ℕ)) → ℕ → List (ℕ × List ℕ)
keys_step types node type = (type, key_in types type node.bytes) ∷ keys_in_rows (child_types types type) node.children

-- of a segment and all below it
abbrev pub keys_below : List SegDef → Node → ℕ → List (ℕ × List ℕ)
keys_below types = fold-Node (ℕ → List (ℕ × List ℕ)) (keys_step types)

abbrev pub keys_of_rows : List SegDef → List ℕ → List (List Node) → List (ℕ × List ℕ)
keys_of_rows types kinds rows = keys_in_rows kinds (map (map (keys_below types)) rows)

-- of a segment of these bytes that has these rows below it
abbrev pub keys_of_segment : List SegDef → ℕ → List ℕ → List (List Node) → List (ℕ × List ℕ)
keys_of_segment types type bytes rows =
    (type, key_in types type bytes) ∷ keys_of_rows types (child_types types type) rows

abbrev pub keys_of_roots : List SegDef → List Root → List (ℕ × List ℕ)
keys_of_roots types roots = flat_map (λ root. keys_of_segment types 0 root.bytes root.children) roots

-- Where an anchor had roots with the same types and keys in hierarchical order as these, whatever else their segments
-- say, its new roots stand in the same elements, one by one.
pub record KeepsElements (shape : Shape) (types : List SegDef) (old new : List (List ℕ)) (anchor : ℕ)
    (roots : List Root) : Type 0 where
  pub keep : (before : List Root) (elements : List Pointer) → IsChain shape types old anchor before elements
      → keys_of_roots types before ≡ keys_of_roots types roots → IsChain shape types new anchor roots elements
