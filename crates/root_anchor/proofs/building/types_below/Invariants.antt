use Rattle.std.proofs.Common.{◌≡◌, ◌++◌, ◌&&◌, not, drop}
use Rattle.fp_model.specs.Order.{is_child_of, numbers_from, child_types}
use Rattle.root_anchor.proofs.building.types_below.Given as goal

-- the types so far, and those to come
abbrev pub invariant-loop-child : goal.invariant-loop-child
invariant-loop-child l = l.types.items ++ numbers_from l.child (λ def. is_child_of l.parent def && not def.sequential)
    (drop l.child l.segments) ≡ child_types l.segments l.parent
