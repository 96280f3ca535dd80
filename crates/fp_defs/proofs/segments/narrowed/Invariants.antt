use Rattle.std.proofs.Common.{◌≡◌, ◌++◌}
use Rattle.std.specs.List.{AllByRecursion}
use Rattle.fp_defs.specs.inside.Segments.{IsNarrow}
use Rattle.fp_defs.proofs.segments.narrowed.Given as goal

abbrev pub invariant-loop-draft : goal.invariant-loop-draft
invariant-loop-draft l = (l.defs ++ l.draft-iterator.rest.items ≡ l.fn.drafts)
    × AllByRecursion IsNarrow l.draft-iterator.rest.items
