-- What stays as it was.
use Rattle.std.specs.Prelude.{◌≡◌, ℕ}
use Rattle.fp_site.specs.Disk.{Disk, Syncs}
use Rattle.fp_site.specs.Moments.{Through}

-- Each data set and the bytes sent are as they were. A crash at any moment leaves what it might have left before, the
-- log as a sync might have left it.
pub record IsUnchanged (old new : Disk) : Type 0 where
  pub contents : (set : ℕ) → new.contents set ≡ old.contents set
  pub sent : new.sent ≡ old.sent
  pub crash : Through old new (Syncs old 0)
