use Rattle.std.proofs.Common.{◌≡◌, ◌+◌, ◌≤◌, ◌&&◌, not, drop, length}
use Rattle.fp_model.specs.Order.{is_child_of, numbers_from, child_types}
use Rattle.fp_defs.proofs.segments.child_count.Given as goal

abbrev pub invariant-loop-draft : goal.invariant-loop-draft
invariant-loop-draft l =
    (l.n + length (numbers_from l.draft-index (λ def. is_child_of l.place def && not def.sequential)
    (drop l.draft-index l.drafts)) ≡ length (child_types l.drafts l.place))
    × (l.n ≤ l.draft-index)
