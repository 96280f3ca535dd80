use Rattle.std.proofs.Common.{◌≡◌, length, map}
use Rattle.fp_model.specs.State.{ascend}
use Rattle.checkpoint_format.proofs.terminals.ascends.Given as goal

-- what is left ascends exactly where the whole does
abbrev pub invariant-loop-rest : goal.invariant-loop-rest
invariant-loop-rest l = ascend (map (λ t. t.lterm.0) l.terminals) ≡ ascend (map (λ t. t.lterm.0) l.rest)

abbrev pub decreases-loop-rest : goal.decreases-loop-rest
decreases-loop-rest l = length l.rest
