use Rattle.std.proofs.Common.{◌≡◌, ◌+◌, ◌-◌, ℕ, vec_len}
use Rattle.memory_site.specs.Sets.{set_bytes}
use Rattle.memory_site.proofs.sets.reach_set.Given as goal

abbrev pub invariant-loop-alloc : goal.invariant-loop-alloc
invariant-loop-alloc l = (k : ℕ) → set_bytes l.sets.items k ≡ set_bytes l.initial.sets.items k

abbrev pub decreases-loop-alloc : goal.decreases-loop-alloc
decreases-loop-alloc l = l.set + 1 - vec_len l.sets
