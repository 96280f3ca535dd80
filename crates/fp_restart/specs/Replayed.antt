-- What reading the groups of a log makes of the databases.
use Rattle.std.specs.Prelude.{◌≡◌, ◌≢◌, ℕ, List, [], ◌++◌, length, slice_index}
use Rattle.balancing.specs.Numbered.{Numbered}
use Rattle.fp_site.specs.Disk.{Disk, IsDurable}
use Rattle.fp_model.specs.declared.definitions.Defs.{Defs}
use Rattle.fp_model.specs.declared.database.Msdb.{Msdb}
use Rattle.fp_model.specs.declared.log.Entry.{Entry}
use Rattle.fp_model.specs.Groups.{HoldsGroups, entries_of}
use Rattle.fp_model.specs.Items.{AreFit, with_items, items_of}
use Rattle.fp_model.specs.Lasts.{Last, format_at, lasts_behind, lasts_of}
use Rattle.fp_model.specs.LogText.{Front, StartsWithFront, first_gate}
use Rattle.fp_model.specs.State.{start}
use Rattle.log_groups.specs.Log.{LogState}
use Rattle.log_groups.specs.Reads.{HasGroup}
use Rattle.msdb_store.specs.Store.{Stored}
use Rattle.fp_restart.specs.declared.begun.Begun.{Begun}
use Rattle.fp_restart.specs.declared.numbers.Numbers.{Numbers}
use Rattle.fp_restart.specs.inside.Begun.{IsBegunBy}
use Rattle.fp_restart.specs.Restarts.{IsBadAt}

-- How far a log was read: the first gate and the place now, how many entries stand between the two, the format in which
-- the first of them is read, and behind them the format and the last number of each terminal.
pub record Progress : Type 0 where
  pub first : ℕ
  pub at : ℕ
  pub count : ℕ
  pub first_format : ℕ
  pub format : ℕ
  pub lasts : List Last

-- as far as an open log and the numbers beside it say
abbrev pub way_to : ℕ → LogState → Numbered → Progress
way_to first log lasts = record {
  first = first;
  at = log.gate;
  count = log.sealed;
  first_format = log.front_format;
  format = log.format;
  lasts = lasts.terminals;
}

-- The numbers of an open log are those of some entries, as many as are sealed: so they are whatever a site tells.
pub record AreOfSome (log : LogState) (numbers : Numbered) : Type 0 where
  pub entries : List Entry
  pub count : log.sealed ≡ length entries
  pub format : log.format ≡ format_at log.front_format entries
  pub lasts : numbers.terminals ≡ lasts_of log.front_format entries

module _ (defs : Defs) (log : List ℕ) where
  -- from the first gate on the log holds whole groups up to that place; their items may be applied
  pub record HoldsFit (first at : ℕ) (groups : List (List Entry)) : Type 0 where
    pub holds : HoldsGroups log first groups at
    pub fit : AreFit defs (items_of (entries_of groups))

  -- so many entries stand up to that place, the format and the numbers are those behind them, and the databases now are
  -- those from before with their items
  pub record IsReplayed (way : Progress) (before now : List Msdb) : Type 0 where
    pub groups : List (List Entry)
    pub holds : HoldsFit way.first way.at groups
    pub count : way.count ≡ length (entries_of groups)
    pub format : way.format ≡ format_at way.first_format (entries_of groups)
    pub lasts : way.lasts ≡ lasts_of way.first_format (entries_of groups)
    pub msdbs : now ≡ with_items defs.msdbs before (items_of (entries_of groups))

  -- from the first gate on whole groups stand, up to a gate that isn't open; their items may be applied
  pub record IsReadable (first : ℕ) : Type 0 where
    pub groups : List (List Entry)
    pub gate : ℕ
    pub holds : HoldsFit first gate groups
    pub closed : slice_index log gate ≢ 1

  -- the first place, from that gate on, where no group stands that restart may take
  pub record IsFirstBadAt (first at : ℕ) : Type 0 where
    pub groups : List (List Entry)
    pub holds : HoldsFit first at groups
    pub bad : IsBadAt defs log (entries_of groups) at

-- ---- any log that can be read

-- What a restart gives of a log, whether or not its entries are a history: every crash leaves it as it is, it begins
-- with the front, and whole groups stand up to the first gate that isn't open. All their entries are sealed, the store
-- has their segments, and the numbers are theirs.
pub record ReadsBack (defs : Defs) (front : Front) (disk : Disk) (store : Stored) (log : LogState) (lasts : Numbered)
    : Type 0 where
  pub durable : IsDurable disk 0
  pub begins : StartsWithFront (disk.contents 0) front
  pub front_format : log.front_format ≡ front.format
  pub replayed : IsReplayed defs (disk.contents 0) (way_to (first_gate front) log lasts) (start defs).msdbs store.msdbs
  pub closed : slice_index (disk.contents 0) log.gate ≢ 1
  pub unsealed : log.unsealed ≡ []
