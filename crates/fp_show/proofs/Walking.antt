-- The lines of segments in hierarchical order are those that a walk down the trees writes.
use Rattle.std.proofs.Common.{◌≡◌, ℕ, suc, ◌+◌, ◌<◌, ◌≤◌, List, [], ◌∷◌, ◌++◌, length, map, drop, get_or, true, false, Option, Some, None, refl, ap, sym, ◌∙◌, arith}
use Rattle.std.specs.Prelude.{flat_map}
use Rattle.std.specs.Option.{option_map_or}
use Rattle.std.proofs.lemmas.Grind.{flat_map-append}
use Rattle.std.proofs.lemmas.List.{drop_all}
use Rattle.fp_model.specs.declared.database.Node.{Node, out-Node}
use Rattle.fp_model.specs.declared.database.Node.TheFolds.{fold_out-Node}
use Rattle.fp_model.specs.declared.database.Root.{Root}
use Rattle.fp_model.specs.declared.database.SeqItem.{SeqItem}
use Rattle.fp_model.specs.declared.definitions.SegDef.{SegDef}
use Rattle.fp_model.specs.Order.{Occurrence, Step, at_end, child_types, dependent, direct, key_in, node_order, node_step, numbers_from, root_order, rows_in_order, sequence, sequential_type, sequentials, under}
use Rattle.fp_show.specs.DbText.{last_type, occurrence_line, typed_line}
use Rattle.fp_show.specs.inside.Walk.{is_direct, kinds_from, line_below, node_text, root_text, row_text, rows_text, sequentials_text}
use Rattle.std.proofs.lemmas.List.Folds.{flat_map-map}
use Rattle.plain_laws.proofs.Places.{rest_at}

-- ---- the child types of a type, from a number on

module _ (types : List SegDef) (parent at : ℕ) where
  abbrev children_in : List SegDef → List ℕ
  children_in defs = numbers_from at (is_direct parent) defs

  module _ (def : SegDef) (lt : at < length types) (is : def ≡ get_or types at def) where
    pub kinds_other : is_direct parent def ≡ false → kinds_from types parent at ≡ kinds_from types parent (at + 1)
    kinds_other other = ap children_in (rest_at types at def lt is) ∙ (rw other refl)

    pub kinds_next : is_direct parent def ≡ true
        → kinds_from types parent at ≡ at ∷ kinds_from types parent (at + 1)
    kinds_next is_one = ap children_in (rest_at types at def lt is) ∙ (rw is_one refl)

  pub kinds_done : length types ≤ at → kinds_from types parent at ≡ []
  kinds_done past = ap children_in (drop_all at types past)

-- ---- lines

module _ (types : List SegDef) where
  -- the lines of occurrences below a segment of a type and a level, and those from the top
  abbrev lines : ℕ → ℕ → List Occurrence → List ℕ
  lines type level os = flat_map (line_below types type level) os

  abbrev top_lines : List Occurrence → List ℕ
  top_lines os = flat_map (occurrence_line types) os

  -- a step in front of paths is a level more, below its type
  under_lines : (type level : ℕ) (step : Step) (os : List Occurrence)
      → lines type level (under step os) ≡ lines step.segment (level + 1) os
  under_lines type level step [] = refl
  under_lines type level step (o ∷ os) =
      let deeper : level + suc (length o.path) ≡ level + 1 + length o.path = omega arith in
      let at_level : ℕ → List ℕ = λ n. typed_line types (last_type step.segment o.path) n o.bytes in
      ap (λ (n : ℕ). at_level n ++ lines type level (under step os)) deeper
      ∙ ap (λ (text : List ℕ). line_below types step.segment (level + 1) o ++ text) (under_lines type level step os)

  from_the_top : (os : List Occurrence) → top_lines os ≡ lines 0 0 os
  from_the_top [] = refl
  from_the_top (o ∷ os) =
      let same : length o.path ≡ 0 + length o.path = omega arith in
      ap (λ (n : ℕ). typed_line types (last_type 0 o.path) n o.bytes ++ top_lines os) same
      ∙ ap (λ (text : List ℕ). line_below types 0 0 o ++ text) (from_the_top os)

  -- ---- rows

  -- the segments of a row of a type, and of rows, in order
  abbrev in_row : ℕ → List Node → List Occurrence
  in_row kind row = flat_map (λ (child : ℕ → List Occurrence). child kind) (map (node_order types) row)

  abbrev in_rows : List ℕ → List (List Node) → List Occurrence
  in_rows kinds rows = rows_in_order kinds (map (map (node_order types)) rows)

  -- a segment and all below it
  node_lines : (type level kind : ℕ) (node : Node)
      → lines type level (node_order types node kind) ≡ node_text types kind (level + 1) node
  node_lines type level kind node =
      let bytes : List ℕ = (out-Node node).bytes in
      let below : List Occurrence = in_rows (child_types types kind) (out-Node node).children in
      let here : level + 1 + 0 ≡ level + 1 = omega arith in
      let opens = fold_out-Node (ℕ → List Occurrence) (node_step types) node in
      ap (λ (f : ℕ → List Occurrence). lines type level (f kind)) opens
      ∙ under_lines type level (direct kind (key_in types kind bytes)) (at_end bytes ∷ below)
      ∙ ap (λ (n : ℕ). typed_line types kind n bytes ++ lines kind (level + 1) below) here

  row_lines : (type level kind : ℕ) (row : List Node)
      → lines type level (in_row kind row) ≡ row_text types kind (level + 1) row
  row_lines type level kind [] = refl
  row_lines type level kind (n ∷ ns) =
      flat_map-append (line_below types type level) (node_order types n kind) (in_row kind ns)
      ∙ ap (λ (text : List ℕ). text ++ lines type level (in_row kind ns)) (node_lines type level kind n)
      ∙ ap (λ (text : List ℕ). node_text types kind (level + 1) n ++ text) (row_lines type level kind ns)

  -- the first row, and the others
  rows_first : (type level kind : ℕ) (kinds : List ℕ) (row : List Node) (rows : List (List Node))
      → rows_text types type level (kind ∷ kinds) (row ∷ rows)
      ≡ row_text types kind (level + 1) row ++ rows_text types type level kinds rows
  rows_first type level kind kinds row rows =
      flat_map-append (line_below types type level) (in_row kind row) (in_rows kinds rows)
      ∙ ap (λ (text : List ℕ). text ++ rows_text types type level kinds rows) (row_lines type level kind row)

  module _ (type level : ℕ) where
    abbrev left : List ℕ → List (List Node) → List ℕ
    left kinds rows = rows_text types type level kinds rows

    -- the next row, of the next child type
    pub rows_next : (kind below i : ℕ) (kinds more : List ℕ) (rows : List (List Node)) (row : List Node)
        → i < length rows → row ≡ get_or rows i row → kinds ≡ kind ∷ more → below ≡ level + 1
        → left kinds (drop i rows) ≡ row_text types kind below row ++ left more (drop (i + 1) rows)
    rows_next kind below i kinds more rows row lt is first deeper =
        ap (λ (rs : List (List Node)). left kinds rs) (rest_at rows i row lt is)
        ∙ ap (λ (ks : List ℕ). left ks (row ∷ drop (i + 1) rows)) first
        ∙ rows_first type level kind more row (drop (i + 1) rows)
        ∙ ap (λ (n : ℕ). row_text types kind n row ++ left more (drop (i + 1) rows)) (sym deeper)

    no_rows : (kinds : List ℕ) → left kinds [] ≡ []
    no_rows [] = refl
    no_rows (kind ∷ kinds) = refl

    pub rows_done : (i : ℕ) (kinds : List ℕ) (rows : List (List Node)) → length rows ≤ i → left kinds (drop i rows) ≡ []
    rows_done i kinds rows past =
        ap (λ (rs : List (List Node)). left kinds rs) (drop_all i rows past) ∙ no_rows kinds

  -- ---- roots

  -- the sequential dependents of a type, if there is one
  abbrev of_type : List SeqItem → Option ℕ → List ℕ
  of_type items type = option_map_or (λ t. flat_map (λ (item : SeqItem). typed_line types t 2 item.bytes) items) type []

  sequential_lines : (items : List SeqItem) → lines 0 1 (sequentials types items) ≡ sequentials_text types items
  sequential_lines items = by (sequential_type types)
    where
      by : (type : Option ℕ) → lines 0 1 (option_map_or (λ t. map (dependent t) items) type []) ≡ of_type items type
      by None = refl
      by (Some type) = flat_map-map (line_below types 0 1) (dependent type) items

  pub sequentials_none : (items : List SeqItem) → sequential_type types ≡ None → sequentials_text types items ≡ []
  sequentials_none items none = ap (of_type items) none

  pub sequentials_some : (items : List SeqItem) (type : ℕ) → sequential_type types ≡ Some type
      → sequentials_text types items ≡ flat_map (λ item. typed_line types type 2 item.bytes) items
  sequentials_some items type some = ap (of_type items) some

  root_lines : (root : Root) → top_lines (root_order types root) ≡ root_text types root
  root_lines root =
      let below : List Occurrence = in_rows (child_types types 0) root.children in
      let own : List Occurrence = at_end root.bytes ∷ sequentials types root.seqs in
      let here : List ℕ = typed_line types 0 1 root.bytes in
      from_the_top (root_order types root)
      ∙ under_lines 0 0 (direct 0 (key_in types 0 root.bytes)) (own ++ below)
      ∙ flat_map-append (line_below types 0 1) own below
      ∙ ap (λ (text : List ℕ). here ++ text ++ lines 0 1 below) (sequential_lines root.seqs)

  -- the segments of an anchor are its roots, each with all below it
  pub roots_lines : (roots : List Root) → flat_map (root_text types) roots ≡ top_lines (sequence types roots)
  roots_lines [] = refl
  roots_lines (r ∷ rs) =
      ap (λ (text : List ℕ). root_text types r ++ text) (roots_lines rs)
      ∙ ap (λ (text : List ℕ). text ++ top_lines (sequence types rs)) (sym (root_lines r))
      ∙ sym (flat_map-append (occurrence_line types) (root_order types r) (sequence types rs))
