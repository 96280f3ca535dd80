use Rattle.std.proofs.Common.{◌≡◌, length, map}
use Rattle.fp_model.specs.State.{ascend, key_of}
use Rattle.checkpoint_format.proofs.reading.ascends.Given as goal

-- what is left ascends exactly where the whole does
abbrev pub invariant-loop-rest : goal.invariant-loop-rest
invariant-loop-rest l = ascend (map (key_of l.fields) l.segments) ≡ ascend (map (key_of l.fields) l.rest)

abbrev pub decreases-loop-rest : goal.decreases-loop-rest
decreases-loop-rest l = length l.rest
