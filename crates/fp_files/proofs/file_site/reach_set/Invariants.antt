-- one place fewer is missing, what is lost stays lost, and the calls that were made stay
use Rattle.std.proofs.Common.{◌+◌, ◌-◌, vec_len}
use Rattle.fp_files.specs.Sets.{AreLonger, AreNumbered, AreUnwritten, StayLost}
use Rattle.fp_files.proofs.file_site.reach_set.Given as goal

abbrev pub invariant-loop-alloc : goal.invariant-loop-alloc
invariant-loop-alloc l = record {
  lost : StayLost l.initial.sets.items l.sets.items;
  kept : AreLonger l.initial.sets.items l.sets.items;
  writes : AreUnwritten l.initial.sets.items l.sets.items;
  numbered : AreNumbered l.sets.items;
}

abbrev pub decreases-loop-alloc : goal.decreases-loop-alloc
decreases-loop-alloc l = l.set + 1 - vec_len l.sets
