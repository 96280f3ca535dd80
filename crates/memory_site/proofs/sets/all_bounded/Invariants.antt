use Rattle.std.proofs.Common.{◌<◌, ◌≤◌, ◌^◌, ℕ, length}
use Rattle.memory_site.specs.Sets.{set_bytes}
use Rattle.memory_site.proofs.sets.all_bounded.Given as goal

abbrev pub invariant-loop-bytes : goal.invariant-loop-bytes
invariant-loop-bytes l = (k : ℕ) → k < l.bytes-index → length (set_bytes l.sets k) ≤ 2 ^ 62
