-- The hierarchical order: the segments of an anchor in the order in which gets meet them, and edits by path.
use Rattle.std.specs.Prelude.{ℕ, zero, suc, ◌+◌, List, [], ◌∷◌, ◌++◌, length, map, replicate, Bool, true, false, not, ◌&&◌, ◌==◌, nat_lt, if◌then◌else◌, Option, Some, None, find, position, slice_get, slice_set}
use Rattle.std.specs.List.{flat_map, list_all, list_any}
use Rattle.std.specs.Option.{option_map_or}
use Rattle.fp_model.specs.declared.definitions.SegDef.{SegDef}
use Rattle.fp_model.specs.declared.calls.Ssa.{Ssa}
use Rattle.fp_model.specs.declared.database.Root.{Root}
use Rattle.fp_model.specs.declared.database.SeqItem.{SeqItem}
use Rattle.fp_model.specs.declared.database.Node.{Node, out-Node, roll-Node}
use Rattle.fp_model.specs.declared.database.Node.TheOpen.{Node-F}
use Rattle.fp_model.specs.declared.database.Node.TheFolds.{fold-Node}
use Rattle.fp_model.specs.Texts.{same_text}
use Rattle.fp_model.specs.State.{key_of, is_below, put_by_key, change_key, drop_key}

-- ---- segment types

-- the key of a segment of a type
abbrev pub key_in : List SegDef → ℕ → List ℕ → List ℕ
key_in types type bytes = option_map_or (λ def. key_of def.fields bytes) (slice_get types type) []

abbrev pub is_child_of : ℕ → SegDef → Bool
is_child_of parent def = option_map_or (λ p. p == parent) def.parent false

abbrev pub numbers_from : ℕ → (SegDef → Bool) → List SegDef → List ℕ
numbers_from at test [] = []
numbers_from at test (def ∷ defs) =
    if test def then at ∷ numbers_from (at + 1) test defs else numbers_from (at + 1) test defs

-- the direct child types of a type, in order of definition
abbrev pub child_types : List SegDef → ℕ → List ℕ
child_types types parent = numbers_from 0 (λ def. is_child_of parent def && not def.sequential) types

-- the sequential type
abbrev pub sequential_type : List SegDef → Option ℕ
sequential_type types = position (λ def. def.sequential) types

abbrev pub is_sequential : List SegDef → ℕ → Bool
is_sequential types type = option_map_or (λ def. def.sequential) (slice_get types type) false

abbrev pub parent_of : List SegDef → ℕ → Option ℕ
parent_of types type = option_map_or (λ def. def.parent) (slice_get types type) None

-- the types from the root down to a type, of at most so many levels above it
abbrev pub line_within : ℕ → List SegDef → ℕ → List ℕ
line_within zero types type = type ∷ []
line_within (suc n) types type =
    option_map_or (λ p. line_within n types p ++ type ∷ []) (parent_of types type) (type ∷ [])

-- the types from the root down to a type
abbrev pub line_to : List SegDef → ℕ → List ℕ
line_to types type = line_within (length types) types type

-- a type stands above another
abbrev pub is_ancestor : List SegDef → ℕ → ℕ → Bool
is_ancestor types a b = not (a == b) && list_any (λ t. t == a) (line_to types b)

-- ---- paths

-- A step of a path: the number of a segment type, the key of a direct segment, the serial of a sequential one.
pub record Step : Type 0 where
  pub segment : ℕ
  pub key : List ℕ
  pub serial : ℕ

-- A segment occurrence: its bytes, and the steps that lead to it, from the root down.
pub record Occurrence : Type 0 where
  pub path : List Step
  pub bytes : List ℕ

abbrev pub direct : ℕ → List ℕ → Step
direct type key = record { segment = type; key = key; serial = 0 }

abbrev pub numbered : ℕ → ℕ → Step
numbered type serial = record { segment = type; key = []; serial = serial }

abbrev pub same_step : Step → Step → Bool
same_step a b = a.segment == b.segment && same_text a.key b.key && a.serial == b.serial

-- types in order of definition, keys ascending, serials descending
abbrev pub step_precedes : Step → Step → Bool
step_precedes a b =
    if a.segment == b.segment
    then (if same_text a.key b.key then nat_lt b.serial a.serial else is_below a.key b.key)
    else nat_lt a.segment b.segment

abbrev pub same_path : List Step → List Step → Bool
same_path [] [] = true
same_path [] (t ∷ ts) = false
same_path (s ∷ ss) [] = false
same_path (s ∷ ss) (t ∷ ts) = same_step s t && same_path ss ts

-- a parent comes before what is below it
abbrev pub path_precedes : List Step → List Step → Bool
path_precedes ss [] = false
path_precedes [] (t ∷ ts) = true
path_precedes (s ∷ ss) (t ∷ ts) = if same_step s t then path_precedes ss ts else step_precedes s t

-- the second path leads on from the first
abbrev pub is_proper_prefix : List Step → List Step → Bool
is_proper_prefix [] [] = false
is_proper_prefix [] (t ∷ ts) = true
is_proper_prefix (s ∷ ss) [] = false
is_proper_prefix (s ∷ ss) (t ∷ ts) = same_step s t && is_proper_prefix ss ts

-- A place in a database: an anchor, and a path there.
pub record Place : Type 0 where
  pub anchor : ℕ
  pub path : List Step

abbrev pub place_precedes : Place → Place → Bool
place_precedes a b = if a.anchor == b.anchor then path_precedes a.path b.path else nat_lt a.anchor b.anchor

abbrev pub lies_within : Place → Place → Bool
lies_within a b = a.anchor == b.anchor && is_proper_prefix a.path b.path

-- ---- the hierarchical order of an anchor

abbrev pub one_down : Step → Occurrence → Occurrence
one_down step s = record s { path = step ∷ s.path }

-- each with this step in front of its path
abbrev pub under : Step → List Occurrence → List Occurrence
under step occurrences = map (one_down step) occurrences

abbrev pub at_end : List ℕ → Occurrence
at_end bytes = record { path = []; bytes = bytes }

abbrev pub dependent : ℕ → SeqItem → Occurrence
dependent type item = one_down (numbered type item.serial) (at_end item.bytes)

-- the segments of each child type, the types in order
abbrev pub rows_in_order : List ℕ → List (List (ℕ → List Occurrence)) → List Occurrence
rows_in_order [] rows = []
rows_in_order (type ∷ types) [] = []
rows_in_order (type ∷ types) (row ∷ rows) = flat_map (λ child. child type) row ++ rows_in_order types rows

-- a segment of a type, and behind it all below it
abbrev pub node_step : List SegDef → Node-F (ℕ → List Occurrence) → ℕ → List Occurrence
node_step types f type =
    under (direct type (key_in types type f.bytes)) (at_end f.bytes ∷ rows_in_order (child_types types type) f.children)

abbrev pub node_order : List SegDef → Node → ℕ → List Occurrence
node_order types = fold-Node (ℕ → List Occurrence) (node_step types)

-- the sequential dependents of a root, newest first
abbrev pub sequentials : List SegDef → List SeqItem → List Occurrence
sequentials types items = option_map_or (λ type. map (dependent type) items) (sequential_type types) []

-- a root, its sequential dependents, and its direct dependents with all below them
abbrev pub root_order : List SegDef → Root → List Occurrence
root_order types root =
    let below : List Occurrence = rows_in_order (child_types types 0) (map (map (node_order types)) root.children) in
    under (direct 0 (key_in types 0 root.bytes)) (at_end root.bytes ∷ sequentials types root.seqs ++ below)

-- the segments of an anchor in hierarchical order
abbrev pub sequence : List SegDef → List Root → List Occurrence
sequence types roots = flat_map (root_order types) roots

-- ---- search arguments

abbrev pub last_type : ℕ → List Ssa → ℕ
last_type type [] = type
last_type type (ssa ∷ ssas) = last_type ssa.segment ssas

abbrev pub ends_in : ℕ → List Step → Bool
ends_in type [] = false
ends_in type (s ∷ []) = s.segment == type
ends_in type (s ∷ t ∷ ts) = ends_in type (t ∷ ts)

-- a qualified argument's key stands in the path
abbrev pub stands_in : List Step → Ssa → Bool
stands_in path ssa =
    option_map_or (λ key. list_any (λ s. s.segment == ssa.segment && same_text s.key key) path) ssa.key true

-- A path is admitted where it ends in the last argument's type and each qualified key stands in it.
abbrev pub admits : List Ssa → List Step → Bool
admits [] path = true
admits (ssa ∷ ssas) path = ends_in (last_type ssa.segment ssas) path && list_all (stands_in path) (ssa ∷ ssas)

-- the first segment of an anchor that is behind one place, below another, and admitted
abbrev pub first_admitted : List SegDef → ℕ → List Root → Option Place → Option Place → List Ssa → Option Occurrence
first_admitted types anchor roots behind within ssas =
    let place : Occurrence → Place = λ s. record { anchor = anchor; path = s.path } in
    let is_behind : Occurrence → Bool = λ s. option_map_or (λ p. place_precedes p (place s)) behind true in
    let is_within : Occurrence → Bool = λ s. option_map_or (λ p. lies_within p (place s)) within true in
    find (λ s. is_behind s && is_within s && admits ssas s.path) (sequence types roots)

-- the segment at a path
abbrev pub bytes_at : List SegDef → List Root → List Step → Option (List ℕ)
bytes_at types roots path =
    option_map_or (λ s. Some s.bytes) (find (λ s. same_path s.path path) (sequence types roots)) None

-- ---- edits

-- what an edit does to the segment at the end of a path
pub data Edit : Type 0 where
  Inserts : List ℕ → Edit
  Replaces : List ℕ → Edit
  Deletes : Edit

abbrev pub new_node : List SegDef → ℕ → List ℕ → Node
new_node types type bytes =
    roll-Node (record { bytes = bytes; children = replicate (length (child_types types type)) [] })

abbrev pub node_key : List SegDef → ℕ → Node → List ℕ
node_key types type node = key_in types type (out-Node node).bytes

-- the edit, among the segments of its type below one parent
abbrev pub nodes_edited : List SegDef → Step → Edit → List Node → List Node
nodes_edited types s (Inserts bytes) nodes =
    put_by_key (node_key types s.segment) (new_node types s.segment bytes) nodes
nodes_edited types s (Replaces bytes) nodes =
    change_key (node_key types s.segment) s.key (λ n. roll-Node (record (out-Node n) { bytes = bytes })) nodes
nodes_edited types s Deletes nodes = drop_key (node_key types s.segment) s.key nodes

-- the rows of a parent, that of a child type changed
abbrev pub row_changed : List SegDef → ℕ → ℕ → (List Node → List Node) → List (List Node) → List (List Node)
row_changed types parent type change rows =
    option_map_or (λ at. option_map_or (λ row. slice_set rows at (change row)) (slice_get rows at) rows)
    (position (λ t. t == type) (child_types types parent)) rows

-- the edit at the end of a path below a segment of a type
abbrev pub below_edited : List SegDef → Edit → ℕ → List Step → List (List Node) → List (List Node)
below_edited types edit parent [] rows = rows
below_edited types edit parent (s ∷ []) rows = row_changed types parent s.segment (nodes_edited types s edit) rows
below_edited types edit parent (s ∷ t ∷ ts) rows =
    let below : List (List Node) → List (List Node) = below_edited types edit s.segment (t ∷ ts) in
    let changed : Node → Node = λ n. roll-Node (record (out-Node n) { children = below (out-Node n).children }) in
    row_changed types parent s.segment (change_key (node_key types s.segment) s.key changed) rows

abbrev pub root_key : List SegDef → Root → List ℕ
root_key types root = key_in types 0 root.bytes

abbrev pub new_root : List SegDef → List ℕ → Root
new_root types bytes = record { bytes = bytes; children = replicate (length (child_types types 0)) []; seqs = [] }

abbrev pub roots_edited : List SegDef → Step → Edit → List Root → List Root
roots_edited types s (Inserts bytes) roots = put_by_key (root_key types) (new_root types bytes) roots
roots_edited types s (Replaces bytes) roots = change_key (root_key types) s.key (λ r. record r { bytes = bytes }) roots
roots_edited types s Deletes roots = drop_key (root_key types) s.key roots

-- the roots of an anchor after an edit at the end of a path
abbrev pub edited : List SegDef → List Root → List Step → Edit → List Root
edited types roots [] edit = roots
edited types roots (s ∷ []) edit = roots_edited types s edit roots
edited types roots (s ∷ t ∷ ts) edit =
    change_key (root_key types) s.key (λ r. record r { children = below_edited types edit 0 (t ∷ ts) r.children }) roots
