use Rattle.std.proofs.Common.{◌≡◌, ◌<◌, ℕ, length}
use Rattle.memory_site.specs.Sets.{set_bytes, image_at}
use Rattle.memory_site.proofs.sets.copied_in.Given as goal

abbrev pub invariant-loop-image : goal.invariant-loop-image
invariant-loop-image l = record {
  count : length l.sets.items ≡ l.image-index;
  same : (k : ℕ) → k < l.image-index → set_bytes l.sets.items k ≡ image_at l.images k;
}
