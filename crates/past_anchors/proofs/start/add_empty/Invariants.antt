use Rattle.std.proofs.Common.{◌≡◌, ◌++◌, [], List, replicate}
use Rattle.fp_model.specs.declared.database.Root.{Root}
use Rattle.past_anchors.proofs.start.add_empty.Given as goal

abbrev pub invariant-loop-done : goal.invariant-loop-done
invariant-loop-done l = l.anchors ≡ l.initial.anchors ++ replicate {A = List Root} l._done []
