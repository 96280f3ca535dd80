-- The text of segments as they are met on the way down. No promise speaks of these.
use Rattle.std.specs.Prelude.{ℕ, ◌+◌, List, [], ◌++◌, length, map, drop, flat_map, Bool, ◌&&◌, not}
use Rattle.std.specs.Option.{option_map_or}
use Rattle.fp_model.specs.declared.definitions.SegDef.{SegDef}
use Rattle.fp_model.specs.declared.database.Node.{Node, out-Node}
use Rattle.fp_model.specs.declared.database.Root.{Root}
use Rattle.fp_model.specs.declared.database.SeqItem.{SeqItem}
use Rattle.fp_model.specs.Order.{Occurrence, child_types, is_child_of, node_order, numbers_from, rows_in_order, sequential_type}
use Rattle.fp_show.specs.DbText.{last_type, typed_line}

-- an occurrence below a segment of a type and a level
abbrev pub line_below : List SegDef → ℕ → ℕ → Occurrence → List ℕ
line_below types type level o = typed_line types (last_type type o.path) (level + length o.path) o.bytes

-- the segments of these child types, and all below them
abbrev pub rows_text : List SegDef → ℕ → ℕ → List ℕ → List (List Node) → List ℕ
rows_text types type level kinds rows =
    flat_map (line_below types type level) (rows_in_order kinds (map (map (node_order types)) rows))

-- a segment of a type and a level, and all below it
abbrev pub node_text : List SegDef → ℕ → ℕ → Node → List ℕ
node_text types type level node =
    typed_line types type level (out-Node node).bytes
    ++ rows_text types type level (child_types types type) (out-Node node).children

-- the segments of one child type, and all below them
abbrev pub row_text : List SegDef → ℕ → ℕ → List Node → List ℕ
row_text types type level row = flat_map (node_text types type level) row

-- the direct child types of a type, from a number on
abbrev pub is_direct : ℕ → SegDef → Bool
is_direct parent def = is_child_of parent def && not def.sequential

abbrev pub kinds_from : List SegDef → ℕ → ℕ → List ℕ
kinds_from types parent from = numbers_from from (is_direct parent) (drop from types)

-- the sequential dependents of a root
abbrev pub sequentials_text : List SegDef → List SeqItem → List ℕ
sequentials_text types items =
    option_map_or (λ type. flat_map (λ item. typed_line types type 2 item.bytes) items) (sequential_type types) []

-- a root and all below it
abbrev pub root_text : List SegDef → Root → List ℕ
root_text types root =
    typed_line types 0 1 root.bytes
    ++ sequentials_text types root.seqs
    ++ rows_text types 0 1 (child_types types 0) root.children
