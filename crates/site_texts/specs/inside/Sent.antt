-- What bodies and proofs need of Sent, beside what contracts say.
use Rattle.std.specs.Prelude.{◌≡◌, ℕ, List, ◌++◌}
use Rattle.fp_site.specs.Disk.{Disk}
use Rattle.site_texts.specs.Sent.{HasSent}

-- Of a text some was sent, some is held back now, and the rest is still to come.
pub record IsTold (old new : Disk) (text held rest : List ℕ) : Type 0 where
  pub done : List ℕ
  pub all : text ≡ done ++ (held ++ rest)
  pub sent : HasSent old new done
