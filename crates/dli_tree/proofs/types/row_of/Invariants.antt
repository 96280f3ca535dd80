use Rattle.std.proofs.Common.{◌≡◌, ◌==◌, ◌&&◌, ◌≤◌, not, position}
use Rattle.fp_model.specs.Order.{child_types, is_child_of}
use Rattle.dli_tree.proofs.Positions.{place_from}
use Rattle.dli_tree.proofs.types.row_of.Given as goal

-- the type isn't among the children so far
abbrev pub invariant-loop-child : goal.invariant-loop-child
invariant-loop-child l =
    (position (λ t. t == l.segment) (child_types l.segments l.parent) ≡ place_from (λ t. t == l.segment)
    (λ def. is_child_of l.parent def && not def.sequential) l.row l.child l.segments)
    × (l.row ≤ l.child)
