-- What a fault comes of.
use Rattle.std.specs.Prelude.{◌≡◌, ℕ}
use Rattle.fp_lists.specs.Faults.{Rose}
use Rattle.command_tasks.specs.declared.status.Status.{Status}
use Rattle.command_tasks.specs.declared.status.Status.TheVariants.{ReadFault, SiteFault}

-- The count of the source's faults rose where a read fault is answered, and else it stayed;
abbrev pub IsCausedBySource : ℕ → ℕ → Status → Type 0
IsCausedBySource before now ReadFault = Rose before now
IsCausedBySource before now _ = now ≡ before

-- and that of the site's where a site fault is.
abbrev pub IsCausedBySite : ℕ → ℕ → Status → Type 0
IsCausedBySite before now SiteFault = Rose before now
IsCausedBySite before now _ = now ≡ before

-- So no fault is told as another answer.
pub record IsCaused (read read2 stored stored2 : ℕ) (answer : Status) : Type 0 where
  pub source : IsCausedBySource read read2 answer
  pub site : IsCausedBySite stored stored2 answer
