use Rattle.std.proofs.Common.{◌≡◌, List}
use Rattle.fp_model.specs.Commit.{with_anchors}
use Rattle.fp_model.specs.declared.database.Msdb.{Msdb}
use Rattle.past_anchors.specs.Databases.{state_of}
use Rattle.past_anchors.proofs.changing.change_anchors.Given as goal

-- the others are left
abbrev pub invariant-loop-change : goal.invariant-loop-change
invariant-loop-change l =
    (msdbs : List Msdb) → with_anchors l.change-iterator.rest.items (state_of msdbs l.dedbs)
    ≡ with_anchors l.fn.changes (state_of msdbs l.initial.dedbs)
