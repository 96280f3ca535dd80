use Rattle.std.proofs.Common.{◌≡◌, ◌+◌, ◌-◌, ◌*◌, ◌≤◌, ◌&&◌, not, true, map, drop, length}
use Rattle.std.specs.Prelude.{find, flat_map}
use Rattle.fp_model.specs.Order.{child_types, is_child_of, node_order, rows_in_order}
use Rattle.fp_model.specs.Shape.{are_rows, is_row, seen_as}
use Rattle.dli_tree.specs.inside.Aims.{aim_of, looks_for}
use Rattle.dli_tree.proofs.Rows.{IsLeftOf, found_from, kinds_from, rows_left}
use Rattle.dli_tree.proofs.search.+searches.Given as goal

-- nothing is found in the twins so far
abbrev pub invariant-in_row-loop-at : goal.invariant-in_row-loop-at
invariant-in_row-loop-at l =
    is_row l.segments l.segment (map (seen_as l.segments) l.twins) ≡ true
    → find (looks_for (aim_of l.aim)) (flat_map (λ node. node_order l.segments node l.segment) l.twins) ≡ found_from
    (looks_for (aim_of l.aim)) (λ node. node_order l.segments node l.segment) l.at l.twins

-- nothing is found in the rows so far
abbrev pub invariant-in_rows-loop-child : goal.invariant-in_rows-loop-child
invariant-in_rows-loop-child l =
    are_rows l.segments (child_types l.segments l.parent) (map (map (seen_as l.segments)) l.rows) ≡ true
    → IsLeftOf l.segments (aim_of l.aim) (rows_left l.segments (aim_of l.aim) (child_types l.segments l.parent) l.rows)
    (kinds_from l.segments (λ def. is_child_of l.parent def && not def.sequential) l.child) (drop l.at l.rows)

-- a child type's number is greater than its parent's
abbrev pub decreases-in_row : goal.decreases-in_row
decreases-in_row l = 4 * (16 - l.segment) + 3

abbrev pub decreases-in_node : goal.decreases-in_node
decreases-in_node l = 4 * (16 - l.segment) + 2

abbrev pub decreases-at_node : goal.decreases-at_node
decreases-at_node l = 4 * (16 - l.segment) + 1

abbrev pub decreases-in_rows : goal.decreases-in_rows
decreases-in_rows l = 4 * (16 - l.parent)
