-- What bodies and proofs need of Down, beside what contracts say.
use Rattle.std.specs.Prelude.{◌≡◌, ℕ, List}
use Rattle.ci_overflow.specs.Lists.{bytes_at}
use Rattle.seq_dependents.specs.declared.part.Part.{Part}
use Rattle.seq_dependents.specs.Slots.{IsSequential}

-- these are the bytes of the sequential interval that stands there
pub record IsRead (part : Part) (area : List (List ℕ)) (ci : ℕ) (bytes : List ℕ) : Type 0 where
  pub is_bytes : bytes ≡ bytes_at area ci
  pub in_place : IsSequential part area ci
