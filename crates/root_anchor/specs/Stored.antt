-- Roots that an anchor may be given, the types that they have, and what else stays.
use Rattle.std.specs.Prelude.{◌≡◌, ℕ, ◌<◌, List, [], ◌∷◌, length, map, Contains, Bool, true, false, ◌&&◌, ◌==◌, nat_lt}
use Rattle.std.specs.List.{list_all}
use Rattle.ci_space.specs.declared.intervals.Shape.{Shape}
use Rattle.ci_overflow.specs.Lists.{bytes_at}
use Rattle.ci_overflow.specs.Places.{kind_at}
use Rattle.ci_overflow.specs.Rooms.{KeepsEnds}
use Rattle.fp_model.specs.declared.definitions.SegDef.{SegDef}
use Rattle.fp_model.specs.declared.database.Node.{Node}
use Rattle.fp_model.specs.declared.database.Node.TheOpen.{Node-F}
use Rattle.fp_model.specs.declared.database.Node.TheFolds.{fold-Node}
use Rattle.fp_model.specs.declared.database.Root.{Root}
use Rattle.fp_model.specs.declared.database.SeqItem.{SeqItem}
use Rattle.fp_model.specs.Order.{child_types}
use Rattle.fp_model.specs.Shape.{has_length}
use Rattle.fp_model.specs.WellFormed.{has_sequential}
use Rattle.anchor_elements.specs.Elements.{Pointer}
use Rattle.root_anchor.specs.Chains.{IsChain, anchor_count}

-- ---- roots in form: each segment has the length of its type, and there is one row for each direct child type

-- a row for each of these types, each segment of it in form
abbrev pub rows_in_form : List ℕ → List (List (ℕ → Bool)) → Bool
rows_in_form [] [] = true
rows_in_form [] (row ∷ rows) = false
rows_in_form (type ∷ rest) [] = false
rows_in_form (type ∷ rest) (row ∷ rows) = list_all (λ node. node type) row && rows_in_form rest rows

abbrev pub form_step : List SegDef → Node-F (ℕ → Bool) → ℕ → Bool
form_step types node type = has_length types type node.bytes && rows_in_form (child_types types type) node.children

-- whether a segment and all below it are in form
abbrev pub is_in_form : List SegDef → Node → ℕ → Bool
is_in_form types = fold-Node (ℕ → Bool) (form_step types)

abbrev pub rows_have_form : List SegDef → List ℕ → List (List Node) → Bool
rows_have_form types kinds rows = rows_in_form kinds (map (map (is_in_form types)) rows)

-- a root's sequential list as an anchor keeps it: at most its newest serial, without bytes, where there is a sequential
-- type
abbrev pub is_newest : List SegDef → List SeqItem → Bool
is_newest types [] = true
is_newest types (item ∷ []) = has_sequential types && nat_lt 0 item.serial && length item.bytes == 0
is_newest types (item ∷ next ∷ items) = false

-- a root in form
abbrev pub is_storable : List SegDef → Root → Bool
is_storable types root =
    has_length types 0 root.bytes && rows_have_form types (child_types types 0) root.children && is_newest types
    root.seqs

abbrev pub are_storable : List SegDef → List Root → Bool
are_storable types roots = list_all (is_storable types) roots

-- every other anchor keeps its roots, and the elements that they stand in
pub record OthersKeep (shape : Shape) (types : List SegDef) (old new : List (List ℕ)) (anchor : ℕ) : Type 0 where
  pub keep : (other : ℕ) (roots : List Root) (elements : List Pointer) → other < anchor_count shape
      → ¬ (other ≡ anchor)
      → IsChain shape types old other roots elements → IsChain shape types new other roots elements

-- so does each anchor that shares no element with this one, whatever else there is in the area
pub record ApartKeep (shape : Shape) (types : List SegDef) (old new : List (List ℕ)) (anchor : ℕ) : Type 0 where
  pub keep : (other : ℕ) (roots mine : List Root) (elements of_mine : List Pointer) → other < anchor_count shape
      → ¬ (other ≡ anchor)
      → IsChain shape types old other roots elements → IsChain shape types old anchor mine of_mine
      → ((at : Pointer) → Contains elements at → ¬ Contains of_mine at)
      → IsChain shape types new other roots elements

-- control keeps begin and end, and the sequential intervals stay
pub record KeepsSequential (shape : Shape) (old new : List (List ℕ)) : Type 0 where
  pub ends : KeepsEnds (bytes_at old 0) (bytes_at new 0)
  pub intervals : (ci : ℕ) → kind_at shape ci ≡ 4 → bytes_at new ci ≡ bytes_at old ci
