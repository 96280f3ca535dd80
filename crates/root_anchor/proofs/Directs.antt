-- The types of all segments of roots are types of direct segments.
use Rattle.std.proofs.Common.{◌≡◌, ℕ, List, [], ◌∷◌, ◌++◌, map, All, sym, ap, subst}
use Rattle.std.specs.List.{AllByRecursion}
use Rattle.std.proofs.lemmas.List.Elements.{All-from_get_or, All-from_recursion, recursion_from_All}
use Rattle.fp_model.specs.declared.definitions.SegDef.{SegDef}
use Rattle.fp_model.specs.declared.database.Node.{Node, map-Node, roll-Node}
use Rattle.fp_model.specs.declared.database.Node.TheFolds.{fold-roll-Node, ind-Node}
use Rattle.fp_model.specs.declared.database.Node.TheOpen.{Node-F}
use Rattle.fp_model.specs.declared.database.Root.{Root}
use Rattle.fp_model.specs.Order.{child_types}
use Rattle.root_anchor.specs.inside.Rebuilding.{IsDirect, types_below, types_step, types_of_row, types_of_rows, types_of_segment, types_of_roots}
use Rattle.root_anchor.proofs.TypeLemmas.{child-direct}

module _ (types : List SegDef) where
  abbrev AreDirect : List ℕ → Type 0
  AreDirect kinds = AllByRecursion (IsDirect types) kinds

  both_direct : (xs ys : List ℕ) → AreDirect xs → AreDirect ys → AreDirect (xs ++ ys)
  both_direct [] ys a b = b
  both_direct (x ∷ xs) ys a b = (a.0, both_direct xs ys a.1 b)

  children_direct : (type : ℕ) → AreDirect (child_types types type)
  children_direct type = recursion_from_All (IsDirect types) (child_types types type)
      (All-from_get_or (IsDirect types) (child_types types type) 0 (λ k l. child-direct types type k l))

  -- those of a segment of a direct type and all below it
  abbrev BelowDirect : Node → Type 0
  BelowDirect n = (type : ℕ) → IsDirect types type → AreDirect (types_below types n type)

  row_direct : (type : ℕ) → IsDirect types type → (row : List Node) → AllByRecursion BelowDirect row
      → AreDirect (types_of_row types type row)
  row_direct type d [] all = tt
  row_direct type d (n ∷ row) all = both_direct (types_below types n type) (types_of_row types type row) (all.0 type d)
      (row_direct type d row all.1)

  rows_direct : (kinds : List ℕ) → AreDirect kinds → (rows : List (List Node))
      → AllByRecursion (λ row. AllByRecursion BelowDirect row) rows → AreDirect (types_of_rows types kinds rows)
  rows_direct [] d rows all = tt
  rows_direct (k ∷ kinds) d [] all = tt
  rows_direct (k ∷ kinds) d (row ∷ rows) all = both_direct (types_of_row types k row) (types_of_rows types kinds rows)
      (row_direct k d.0 row all.0) (rows_direct kinds d.1 rows all.1)

  nodes_of : (row : List ((n : Node) × BelowDirect n)) → AllByRecursion BelowDirect (map (λ e. e.0) row)
  nodes_of [] = tt
  nodes_of (n ∷ row) = (n.1, nodes_of row)

  rows_of : (rows : List (List ((n : Node) × BelowDirect n)))
      → AllByRecursion (λ row. AllByRecursion BelowDirect row) (map (map (λ e. e.0)) rows)
  rows_of [] = tt
  rows_of (row ∷ rows) = (nodes_of row, rows_of rows)

  rolled_direct : (y : Node-F ((n : Node) × BelowDirect n)) → BelowDirect (roll-Node (map-Node _ _ (λ e. e.0) y))
  rolled_direct y type d =
      let f : Node-F Node = map-Node _ _ (λ e. e.0) y in
      let rows : List (List Node) = map (map (λ e. e.0)) y.children in
      let e : types_below types (roll-Node f) type ≡ types_of_segment types type rows =
      ap (λ (s : ℕ → List ℕ). s type) (fold-roll-Node (ℕ → List ℕ) (types_step types) f) in
      subst AreDirect (sym e)
      (d, rows_direct (child_types types type) (children_direct type) rows (rows_of y.children))

  node_direct : (n : Node) → BelowDirect n
  node_direct = ind-Node BelowDirect (λ x y is. subst (λ (z : Node-F Node). BelowDirect (roll-Node z)) is (rolled_direct y))

  each_direct : (row : List Node) → AllByRecursion BelowDirect row
  each_direct [] = tt
  each_direct (n ∷ row) = (node_direct n, each_direct row)

  all_direct : (rows : List (List Node)) → AllByRecursion (λ row. AllByRecursion BelowDirect row) rows
  all_direct [] = tt
  all_direct (row ∷ rows) = (each_direct row, all_direct rows)

  roots_direct : IsDirect types 0 → (roots : List Root) → AreDirect (types_of_roots types roots)
  roots_direct d [] = tt
  roots_direct d (r ∷ roots) = both_direct (types_of_segment types 0 r.children) (types_of_roots types roots)
      (d, rows_direct (child_types types 0) (children_direct 0) r.children (all_direct r.children))
      (roots_direct d roots)

  pub roots-direct : IsDirect types 0 → (roots : List Root) → All (IsDirect types) (types_of_roots types roots)
  roots-direct d roots = All-from_recursion (IsDirect types) (types_of_roots types roots) (roots_direct d roots)
