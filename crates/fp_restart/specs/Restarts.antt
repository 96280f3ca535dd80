-- What a restart gives, and when the log is damaged.
use Rattle.std.specs.Prelude.{◌≡◌, ◌⊎◌, ⊤, ℕ, List, [], ◌++◌, length, Result, Ok, Err}
use Rattle.balancing.specs.Numbered.{Numbered}
use Rattle.fp_site.specs.Disk.{Disk}
use Rattle.fp_model.specs.declared.definitions.Defs.{Defs}
use Rattle.fp_model.specs.declared.database.Db.{Db}
use Rattle.fp_model.specs.declared.log.Entry.{Entry}
use Rattle.fp_model.specs.declared.scripts.Script.{Script}
use Rattle.fp_model.specs.Groups.{IsDamaged, entries_of}
use Rattle.fp_model.specs.SerialHistory.{IsSerialHistory}
use Rattle.fp_model.specs.Items.{AreFit, items_of}
use Rattle.fp_model.specs.Lasts.{format_at, lasts_of}
use Rattle.fp_model.specs.LogText.{Front}
use Rattle.fp_model.specs.Product.{rules_of}
use Rattle.log_groups.specs.Images.{IsAtRest}
use Rattle.log_groups.specs.Log.{LogState}
use Rattle.log_groups.specs.Reads.{HasGroup}
use Rattle.msdb_store.specs.Store.{Stored, IsOf}
use Rattle.fp_restart.specs.declared.fault.RestartFault.{RestartFault}
use Rattle.fp_restart.specs.declared.fault.RestartFault.TheVariants as fault

-- The store, the open log and the numbers stand for these entries: the store has the segments of the state behind them,
-- all of them are sealed, the log on the disk is at rest and holds them, and behind them the format and the last number
-- of each terminal are these.
pub record StandsFor (defs : Defs) (scripts : List Script) (front : Front) (disk : Disk) (entries : List Entry)
    (store : Stored) (log : LogState) (numbers : Numbered) : Type 0 where
  pub of : IsOf defs.msdbs store
  pub segments : (last : Db) → IsSerialHistory (rules_of defs scripts) front.format entries last
      → store.msdbs ≡ last.msdbs
  pub sealed : log.sealed ≡ length entries
  pub unsealed : log.unsealed ≡ []
  pub front_format : log.front_format ≡ front.format
  pub format : log.format ≡ format_at front.format entries
  pub lasts : numbers.terminals ≡ lasts_of front.format entries
  pub groups : List (List Entry)
  pub all : entries ≡ entries_of groups
  pub at_rest : IsAtRest disk front groups log.gate

-- the log is damaged at this place, or a fault of the site or want of memory stands in the place of that
abbrev pub IsDamageOr : {X : Type 0} → ℕ → Result X RestartFault → Type 0
IsDamageOr at (Ok x) = ⊥
IsDamageOr at (Err fault.Foreign) = ⊥
IsDamageOr at (Err fault.SiteFault) = ⊤
IsDamageOr at (Err (fault.Damaged set place)) = (set ≡ 0) × (place ≡ at)
IsDamageOr at (Err fault.Memory) = ⊤

-- The group there has items that restart may not apply behind those of these entries: one isn't fit, or is a range of
-- an interval that none of them has written whole.
pub record HasUnfit (defs : Defs) (log : List ℕ) (earlier : List Entry) (at : ℕ) : Type 0 where
  pub entries : List Entry
  pub next : ℕ
  pub group : HasGroup log at entries next
  pub unfit : ¬ AreFit defs (items_of earlier ++ items_of entries)

-- Behind these entries the bytes of the log at a gate are outside the format, or what stands there doesn't fit the
-- definitions.
abbrev pub IsBadAt : Defs → List ℕ → List Entry → ℕ → Type 0
IsBadAt defs log earlier at = IsDamaged log at ⊎ HasUnfit defs log earlier at
