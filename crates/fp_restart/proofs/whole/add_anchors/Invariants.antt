use Rattle.std.specs.Prelude.{◌≡◌, ◌++◌, [], replicate}
use Rattle.fp_restart.proofs.whole.add_anchors.Given as goal

-- so many anchors are added
abbrev pub invariant-loop : goal.invariant-loop
invariant-loop l = l.anchors ≡ l.initial.anchors ++ replicate l.counter []
