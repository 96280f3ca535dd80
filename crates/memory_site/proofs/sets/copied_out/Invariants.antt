use Rattle.std.proofs.Common.{◌≡◌, ◌<◌, ℕ, length}
use Rattle.memory_site.specs.Sets.{set_bytes, image_at}
use Rattle.memory_site.proofs.sets.copied_out.Given as goal

abbrev pub invariant-loop-bytes : goal.invariant-loop-bytes
invariant-loop-bytes l = record {
  count : length l.images ≡ l.bytes-index;
  same : (k : ℕ) → k < l.bytes-index → image_at l.images k ≡ set_bytes l.sets k;
}
