use Rattle.std.proofs.Common.{◌≡◌, ℕ, drop, take}
use Rattle.memory_site.specs.History.{Image, contents_after, sent_after, synced_after}
use Rattle.memory_site.specs.Sets.{set_bytes}
use Rattle.memory_site.specs.Calls.{bytes_of_all, history_of}
use Rattle.memory_site.proofs.replay.replayed.Given as goal

abbrev pub invariant-loop-call : goal.invariant-loop-call
invariant-loop-call l = record {
  real : (k : ℕ) → set_bytes l.real.items k ≡ contents_after (history_of l.start (take l.call-index l.calls) l.kept) k;
  images : (k : ℕ) → Image (history_of l.start (take l.call-index l.calls) l.kept) k (set_bytes l.images.items k);
  none : l.choice ≡ 0 → (k : ℕ) → set_bytes l.images.items k ≡ synced_after
      (history_of l.start (take l.call-index l.calls) l.kept) k;
  every : l.choice ≡ 1 → (k : ℕ) → set_bytes l.images.items k ≡ contents_after
      (history_of l.start (take l.call-index l.calls) l.kept) k;
  text : l.sent ≡ sent_after (history_of l.start (take l.call-index l.calls) l.kept);
  behind : l.left ≡ drop (bytes_of_all (take l.call-index l.calls)) l.kept;
}
