use Rattle.std.proofs.Common.{◌≡◌, ◌≤◌, ◌++◌, length, drop}
use Rattle.fp_model.specs.Numbers.{pairs}
use Rattle.packed_dec.proofs.writing.put_pairs.Given as goal

abbrev pub invariant-loop-at : goal.invariant-loop-at
invariant-loop-at l = record {
  within : l.at ≤ length l.into;
  so_far : pairs l.at l.rest ++ drop l.at l.into ≡ pairs (length l.into) l.initial.rest;
}

abbrev pub decreases-loop-at : goal.decreases-loop-at
decreases-loop-at l = l.at
