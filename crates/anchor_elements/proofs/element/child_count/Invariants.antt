use Rattle.std.proofs.Common.{◌≡◌, ◌+◌, ◌≤◌, ◌&&◌, not, drop, length}
use Rattle.fp_model.specs.Order.{is_child_of, numbers_from, child_types}
use Rattle.anchor_elements.proofs.element.child_count.Given as goal

abbrev pub invariant-loop-def : goal.invariant-loop-def
invariant-loop-def l =
    (l.n + length (numbers_from l.def-index (λ def. is_child_of l.parent def && not def.sequential)
    (drop l.def-index l.segments)) ≡ length (child_types l.segments l.parent))
    × (l.n ≤ l.def-index)
