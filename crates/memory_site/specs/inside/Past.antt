-- What bodies and proofs need of Past, beside what contracts say.
use Rattle.std.specs.Prelude.{◌≡◌, ℕ, List, ◌∷◌, length}
use Rattle.memory_site.specs.History.{History}
use Rattle.memory_site.specs.History.Event.{Wrote}

-- a write that failed: some bytes of its length were written
pub record Breaks (set at count : ℕ) (old new : History) : Type 0 where
  pub left : List ℕ
  pub as_long : length left ≡ count
  pub noted : new ≡ Wrote set at left ∷ old
