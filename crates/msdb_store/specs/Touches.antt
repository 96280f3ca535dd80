-- Segments that settling touches, by ascending database and key, with their bytes: none where the segment is taken
-- away.
use Rattle.std.specs.Prelude.{ℕ, List}

pub record Touch : Type 0 where
  pub number : ℕ
  pub key : List ℕ
  pub bytes : List ℕ
