-- That what stands in front of a log's gate stays where every crash leaves the log, whatever its groups are, and also where
-- that gate is absent.
use Rattle.std.specs.Prelude.{ℕ, ◌≤◌, List}
use Rattle.fp_model.specs.declared.log.Entry.{Entry}
use Rattle.fp_model.specs.LogText.{Front}
use Rattle.fp_site.specs.Disk.{Disk}
use Rattle.fp_site.specs.Moments.{Through}
use Rattle.log_groups.specs.Images.{HasFrontOf, IsFrontOf, IsKept}

-- Every crash leaves the log, and it holds groups up to this gate, which may be absent. In front of a place that is no
-- further it has these bytes.
pub record HasFront (bytes : List ℕ) (at : ℕ) (disk : Disk) (gate : ℕ) : Type 0 where
  pub front : Front
  pub groups : List (List Entry)
  pub kept : IsKept disk front groups gate
  pub behind : at ≤ gate
  pub same : IsFrontOf bytes at (disk.contents 0)

-- whatever a durable log has in front of its gate, a crash at any moment since leaves a log that has it
abbrev pub KeepsFronts : Disk → ℕ → Disk → Type 0
KeepsFronts old gate new =
    (bytes : List ℕ) (at : ℕ) → HasFront bytes at old gate → Through old new (HasFrontOf bytes at)

-- and the log now is durable, holds groups up to its gate now, and has it too
abbrev pub HoldsFronts : Disk → ℕ → Disk → ℕ → Type 0
HoldsFronts old gate new next = (bytes : List ℕ) (at : ℕ) → HasFront bytes at old gate → HasFront bytes at new next
