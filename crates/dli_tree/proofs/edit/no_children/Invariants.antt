use Rattle.std.proofs.Common.{◌≡◌, ◌++◌, ◌&&◌, not, [], length, replicate}
use Rattle.fp_model.specs.Order.{child_types, is_child_of}
use Rattle.dli_tree.proofs.Rows.{kinds_from}
use Rattle.dli_tree.proofs.edit.no_children.Given as goal

-- the rows so far, and those to come
abbrev pub invariant-loop-child : goal.invariant-loop-child
invariant-loop-child l =
    l.rows ++ replicate (length (kinds_from l.segments (λ def. is_child_of l.segment def && not def.sequential)
    l.child)) []
    ≡ replicate (length (child_types l.segments l.segment)) []
