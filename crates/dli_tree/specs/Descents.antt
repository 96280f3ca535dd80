-- Where a path leads, from the key of each step to that of the next.
use Rattle.std.specs.Prelude.{◌≡◌, ℕ, List, [], ◌∷◌, Bool, true, false, ◌==◌, Option, find, option_and_then, position, slice_get}
use Rattle.std.specs.List.{AllByRecursion}
use Rattle.std.specs.Option.{option_map_or}
use Rattle.fp_model.specs.declared.database.Node.{Node, out-Node}
use Rattle.fp_model.specs.declared.database.Root.{Root}
use Rattle.fp_model.specs.declared.definitions.SegDef.{SegDef}
use Rattle.fp_model.specs.Order.{Step, child_types, is_sequential, node_key, root_key}
use Rattle.fp_model.specs.Texts.{same_text}

-- the child with the type and the key of a step, among the rows of a parent of a type
abbrev pub twin_of : List SegDef → ℕ → Step → List (List Node) → Option Node
twin_of types parent s rows =
    option_and_then (λ row. find (λ n. same_text (node_key types s.segment n) s.key) row)
    (option_and_then (λ at. slice_get rows at) (position (λ t. t == s.segment) (child_types types parent)))

-- a path below a segment of a type leads to a child at each step
abbrev pub leads_below : List SegDef → ℕ → List Step → List (List Node) → Bool
leads_below types parent [] rows = true
leads_below types parent (s ∷ ss) rows =
    option_map_or (λ n. leads_below types s.segment ss (out-Node n).children) (twin_of types parent s rows) false

-- A path leads to a segment: its first step to a root, each further one to a child.
abbrev pub leads_to : List SegDef → List Root → List Step → Bool
leads_to types roots [] = false
leads_to types roots (s ∷ ss) =
    option_map_or (λ r. leads_below types 0 ss r.children) (find (λ r. same_text (root_key types r) s.key) roots) false

-- a path of direct segments, from a root down
abbrev pub AreDirect : List SegDef → List Step → Type 0
AreDirect types [] = ⊥
AreDirect types (s ∷ ss) =
    (s.segment ≡ 0) × AllByRecursion (λ t. t.serial ≡ 0) (s ∷ ss)
    × AllByRecursion (λ t. is_sequential types t.segment ≡ false) (s ∷ ss)
