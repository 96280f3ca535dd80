use Rattle.fp_trace.specs.Followed.{IsShadow}
use Rattle.fp_trace.proofs.turns.tell.Given as goal

abbrev pub invariant-loop-at : goal.invariant-loop-at
invariant-loop-at g l = IsShadow l.shadow
