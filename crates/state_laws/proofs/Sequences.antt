-- What an anchor shows: each segment is as long as its type says, under a path that begins at a root.
use Rattle.std.proofs.Common.{◌≡◌, ℕ, List, [], ◌∷◌, ◌++◌, map, Option, Some, None, refl, sym, ◌∙◌, ap, subst, true, false, ◌&&◌, slice_get}
use Rattle.std.specs.Prelude.{IfSome, flat_map}
use Rattle.std.specs.List.{AllByRecursion, list_all}
use Rattle.std.specs.Option.{option_map_or}
use Rattle.fp_model.specs.declared.database.AreaEnds.{AreaEnds}
use Rattle.fp_model.specs.declared.database.Node.{Node, map-Node, roll-Node}
use Rattle.fp_model.specs.declared.database.Node.TheFolds.{fold-roll-Node, ind-Node}
use Rattle.fp_model.specs.declared.database.Node.TheOpen.{Node-F}
use Rattle.fp_model.specs.declared.database.Root.{Root}
use Rattle.fp_model.specs.declared.database.SeqItem.{SeqItem}
use Rattle.fp_model.specs.declared.definitions.DedbDef.{DedbDef}
use Rattle.fp_model.specs.declared.definitions.SegDef.{SegDef}
use Rattle.fp_model.specs.DedbCalls.{end_of, type_of_path}
use Rattle.fp_model.specs.Order.{Occurrence, Step, at_end, child_types, dependent, direct, is_sequential, key_in, node_order, node_step, one_down, root_order, rows_in_order, sequence, sequential_type, sequentials, under}
use Rattle.fp_model.specs.Shape.{Seen, are_rows, has_length, have_lengths, is_anchor, is_row, seen_as, seen_step}
use Rattle.fp_model.specs.State.{ascend}
use Rattle.state_laws.proofs.Lists.{true_is_not_false}
use Rattle.state_laws.proofs.Roots.{IsWhole, passes, to_good, whole}
use Rattle.plain_laws.proofs.Alls.{all_append}
use Rattle.plain_laws.proofs.Truths.{first_of_both, second_of_both}
use Rattle.model_laws.proofs.Layouts.{sequential_is}

-- ---- lists

-- ---- nodes

module _ (types : List SegDef) where
  -- the type at the end of a path below a segment of a type
  abbrev pub end_type : ℕ → List Step → ℕ
  end_type type [] = type
  end_type type (s ∷ ss) = end_type s.segment ss

  -- a segment below one of a type, by direct steps, as long as its own type says
  abbrev pub IsBelow : ℕ → Occurrence → Type 0
  IsBelow above o =
      AllByRecursion (λ s. s.serial ≡ 0) o.path × (has_length types (end_type above o.path) o.bytes ≡ true)

  -- all that a node in shape shows
  abbrev ShowsWhole : Node → Type 0
  ShowsWhole n = (type above : ℕ) → (seen_as types n type).in_shape ≡ true
      → AllByRecursion (IsBelow above) (node_order types n type)

  below_step : (type above : ℕ) (key : List ℕ) (os : List Occurrence) → AllByRecursion (IsBelow type) os
      → AllByRecursion (IsBelow above) (under (direct type key) os)
  below_step type above key [] all = tt
  below_step type above key (o ∷ os) all = (((refl, all.0.0), all.0.1), below_step type above key os all.1)

  row_shows : (type above : ℕ) (row : List Node) → AllByRecursion ShowsWhole row
      → list_all (λ (seen : ℕ → Seen). (seen type).in_shape) (map (seen_as types) row) ≡ true
      → AllByRecursion (IsBelow above)
      (flat_map (λ (child : ℕ → List Occurrence). child type) (map (node_order types) row))
  row_shows type above [] all e = tt
  row_shows type above (n ∷ row) all e =
      let a = (seen_as types n type).in_shape in
      let b = list_all (λ (seen : ℕ → Seen). (seen type).in_shape) (map (seen_as types) row) in
      all_append (IsBelow above) (node_order types n type)
      (flat_map (λ (child : ℕ → List Occurrence). child type) (map (node_order types) row))
      (all.0 type above (first_of_both a b e)) (row_shows type above row all.1 (second_of_both a b e))

  rows_show : (above : ℕ) (kinds : List ℕ) (rows : List (List Node))
      → AllByRecursion (λ row. AllByRecursion ShowsWhole row) rows
      → are_rows types kinds (map (map (seen_as types)) rows) ≡ true
      → AllByRecursion (IsBelow above) (rows_in_order kinds (map (map (node_order types)) rows))
  rows_show above [] rows all e = tt
  rows_show above (type ∷ kinds) [] all e = tt
  rows_show above (type ∷ kinds) (row ∷ rows) all e =
      let seen : List (ℕ → Seen) = map (seen_as types) row in
      let here = is_row types type seen in
      let rest = are_rows types kinds (map (map (seen_as types)) rows) in
      let keys = ascend (map (λ (child : ℕ → Seen). key_in types type (child type).bytes) seen) in
      let shapes = list_all (λ (child : ℕ → Seen). (child type).in_shape) seen in
      all_append (IsBelow above)
      (flat_map (λ (child : ℕ → List Occurrence). child type) (map (node_order types) row))
      (rows_in_order kinds (map (map (node_order types)) rows))
      (row_shows type above row all.0 (first_of_both shapes keys (first_of_both here rest e)))
      (rows_show above kinds rows all.1 (second_of_both here rest e))

  nodes_of : (row : List ((n : Node) × ShowsWhole n)) → AllByRecursion ShowsWhole (map (λ e. e.0) row)
  nodes_of [] = tt
  nodes_of (n ∷ row) = (n.1, nodes_of row)

  rows_of : (rows : List (List ((n : Node) × ShowsWhole n)))
      → AllByRecursion (λ row. AllByRecursion ShowsWhole row) (map (map (λ e. e.0)) rows)
  rows_of [] = tt
  rows_of (row ∷ rows) = (nodes_of row, rows_of rows)

  rolled_shows : (y : Node-F ((n : Node) × ShowsWhole n)) → ShowsWhole (roll-Node (map-Node _ _ (λ e. e.0) y))
  rolled_shows y type above e =
      let f : Node-F Node = map-Node _ _ (λ e. e.0) y in
      let rows : List (List Node) = map (map (λ e. e.0)) y.children in
      let a = has_length types type y.bytes in
      let b = are_rows types (child_types types type) (map (map (seen_as types)) rows) in
      let shape : (a && b) ≡ true =
      sym (ap (λ (s : ℕ → Seen). (s type).in_shape) (fold-roll-Node (ℕ → Seen) (seen_step types) f)) ∙ e in
      let below : List Occurrence = rows_in_order (child_types types type) (map (map (node_order types)) rows) in
      subst (λ (os : List Occurrence). AllByRecursion (IsBelow above) os)
      (sym (ap (λ (order : ℕ → List Occurrence). order type)
      (fold-roll-Node (ℕ → List Occurrence) (node_step types) f)))
      (below_step type above (key_in types type y.bytes) (at_end y.bytes ∷ below) (
        (tt, first_of_both a b shape),
        rows_show type (child_types types type) rows (rows_of y.children) (second_of_both a b shape),
      ))

  node_shows : (n : Node) → ShowsWhole n
  node_shows = ind-Node ShowsWhole (λ x y is. subst (λ (z : Node-F Node). ShowsWhole (roll-Node z)) is (rolled_shows y))

  each_shows : (row : List Node) → AllByRecursion ShowsWhole row
  each_shows [] = tt
  each_shows (n ∷ row) = (node_shows n, each_shows row)

  all_show : (rows : List (List Node)) → AllByRecursion (λ row. AllByRecursion ShowsWhole row) rows
  all_show [] = tt
  all_show (row ∷ rows) = (each_shows row, all_show rows)

-- ---- roots

-- A segment of an anchor: its path begins at a root, by direct steps unless it is sequential, and it is as long as its
-- type says.
pub record IsSegment (def : DedbDef) (dedb : ℕ) (o : Occurrence) : Type 0 where
  pub begins : IfSome (slice_get o.path 0) (λ s. s.segment ≡ 0)
  pub direct : is_sequential def.segments (type_of_path def dedb o.path) ≡ false
      → AllByRecursion (λ s. s.serial ≡ 0) o.path
  pub long : has_length def.segments (type_of_path def dedb o.path) o.bytes ≡ true

module _ (def : DedbDef) (dedb : ℕ) where
  abbrev types : List SegDef
  types = def.segments

  end_is : (s : Step) (ss : List Step) → (end_of s ss).segment ≡ end_type types s.segment ss
  end_is s [] = refl
  end_is s (t ∷ ts) = end_is t ts

  direct_shown : (key : List ℕ) (os : List Occurrence) → AllByRecursion (IsBelow types 0) os
      → AllByRecursion (IsSegment def dedb) (under (direct 0 key) os)
  direct_shown key [] all = tt
  direct_shown key (o ∷ os) all = (
    record {
      begins = refl;
      direct = λ e. (refl, all.0.0);
      long = subst (λ (t : ℕ). has_length types t o.bytes ≡ true) (sym (end_is (direct 0 key) o.path)) all.0.1;
    },
    direct_shown key os all.1,
  )

  sequential_shown : (key : List ℕ) (type : ℕ) (items : List SeqItem) → sequential_type types ≡ Some type
      → have_lengths types items ≡ true
      → AllByRecursion (IsSegment def dedb) (under (direct 0 key) (map (dependent type) items))
  sequential_shown key type [] kind e = tt
  sequential_shown key type (item ∷ items) kind e =
      let a = option_map_or (λ (t : ℕ). has_length types t item.bytes) (sequential_type types) false in
      let long : has_length types type item.bytes ≡ true =
      subst (λ (o : Option ℕ). option_map_or (λ (t : ℕ). has_length types t item.bytes) o false ≡ true) kind
      (first_of_both a (have_lengths types items) e) in (
        record {
          begins = refl;
          direct = λ none. absurd (true_is_not_false (sym (sequential_is types type kind) ∙ none));
          long = long;
        },
        sequential_shown key type items kind (second_of_both a (have_lengths types items) e),
      )

  sequentials_shown : (key : List ℕ) (items : List SeqItem) → have_lengths types items ≡ true
      → AllByRecursion (IsSegment def dedb) (under (direct 0 key) (sequentials types items))
  sequentials_shown key items e = by (sequential_type types) refl
    where
      by : (o : Option ℕ) → sequential_type types ≡ o
          → AllByRecursion (IsSegment def dedb)
          (under (direct 0 key) (option_map_or (λ type. map (dependent type) items) o []))
      by None kind = tt
      by (Some type) kind = sequential_shown key type items kind e

  under_append : (step : Step) (xs ys : List Occurrence) → under step (xs ++ ys) ≡ under step xs ++ under step ys
  under_append step [] ys = refl
  under_append step (x ∷ xs) ys = ap (λ (os : List Occurrence). one_down step x ∷ os) (under_append step xs ys)

  root_shows : (anchor : ℕ) (ends : AreaEnds) (root : Root) → IsWhole def anchor ends root
      → AllByRecursion (IsSegment def dedb) (root_order types root)
  root_shows anchor ends root k =
      let step : Step = direct 0 (key_in types 0 root.bytes) in
      let key : List ℕ = key_in types 0 root.bytes in
      let below : List Occurrence = rows_in_order (child_types types 0) (map (map (node_order types)) root.children) in
      let first = direct_shown key (at_end root.bytes ∷ []) ((tt, k.long), tt) in
      let rest = direct_shown key below
      (rows_show types 0 (child_types types 0) root.children (all_show types root.children) k.rows) in
      let middle = sequentials_shown key root.seqs k.lengths in (
        first.0,
        subst (λ (os : List Occurrence). AllByRecursion (IsSegment def dedb) os)
            (sym (under_append step (sequentials types root.seqs) below))
            (all_append (IsSegment def dedb) (under step (sequentials types root.seqs)) (under step below) middle rest),
      )

  roots_show : (anchor : ℕ) (ends : AreaEnds) (roots : List Root)
      → AllByRecursion (λ root. passes def anchor ends root ≡ true) roots
      → AllByRecursion (IsSegment def dedb) (sequence types roots)
  roots_show anchor ends [] all = tt
  roots_show anchor ends (root ∷ roots) all =
      all_append (IsSegment def dedb) (root_order types root) (sequence types roots)
      (root_shows anchor ends root (whole def anchor ends root all.0)) (roots_show anchor ends roots all.1)

  -- all that an anchor in shape shows
  pub anchor_shows : (anchor : ℕ) (ends : AreaEnds) (roots : List Root) → is_anchor def anchor ends roots ≡ true
      → AllByRecursion (IsSegment def dedb) (sequence types roots)
  anchor_shows anchor ends roots e = roots_show anchor ends roots (to_good def anchor ends roots e).0
