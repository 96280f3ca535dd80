use Rattle.std.proofs.Common.{◌≡◌, ◌<◌, ℕ, List, length}
use Rattle.past_segments.specs.Times.{EndsBy, HasKey, Rises, value_at}
use Rattle.past_segments.proofs.slot.Slot.take_back.Given as goal

abbrev pub invariant-loop-self : goal.invariant-loop-self
invariant-loop-self l = record {
  before : (p : ℕ) → p < l.place → value_at p l.self.versions ≡ value_at p l.fn.self.versions;
  key : l.self.key ≡ l.fn.self.key;
  rises : Rises l.fn.self.versions → Rises l.self.versions;
  has_key : (count : ℕ) (key : List ℕ) → HasKey count key l.fn.self.versions → HasKey count key l.self.versions;
  settled : (p : ℕ) → EndsBy p l.fn.self.versions → EndsBy p l.self.versions;
  place : l.place ≡ l.fn.place;
}

abbrev pub decreases-loop-self : goal.decreases-loop-self
decreases-loop-self l = length l.self.versions
