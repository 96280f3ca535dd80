use Rattle.std.proofs.Common.{◌≡◌, ℕ, length, take}
use Rattle.std.specs.List.{All}
use Rattle.memory_site.specs.Sets.{HasSpare, set_bytes}
use Rattle.memory_site.proofs.sets.prepare_sets.Given as goal

abbrev pub invariant-loop-i : goal.invariant-loop-i
invariant-loop-i l = record {
  same : (k : ℕ) → set_bytes l.sets.items k ≡ set_bytes l.initial.sets.items k;
  room : All (HasSpare l.bytes) (take l.i l.sets.items);
  count : length l.sets.items ≡ l.i-end;
}
