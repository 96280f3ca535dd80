use Rattle.std.proofs.Common.{◌≡◌}
use Rattle.fp_show.specs.inside.Walk.{kinds_from}
use Rattle.fp_show.proofs.walk.next_child.Given as goal

-- none of the types so far is a child
abbrev pub invariant-loop-number : goal.invariant-loop-number
invariant-loop-number l = kinds_from l.types l.parent l.from ≡ kinds_from l.types l.parent l.number
