use Rattle.std.proofs.Common.{◌≡◌, ◌+◌, ◌-◌, ℕ, get_or, vec_len}
use Rattle.memory_site.proofs.memory.count_read.Given as goal

abbrev pub invariant-loop-reads : goal.invariant-loop-reads
invariant-loop-reads l = (k : ℕ) → get_or l.reads.items k 0 ≡ get_or l.initial.reads.items k 0

abbrev pub decreases-loop-reads : goal.decreases-loop-reads
decreases-loop-reads l = l.set + 1 - vec_len l.reads
