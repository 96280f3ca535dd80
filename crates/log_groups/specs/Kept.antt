-- What a site keeps over stops: a log that is sound, and a site that is safe.
use Rattle.std.specs.Prelude.{◌≡◌, ℕ, ◌<◌, List, ◌++◌, length}
use Rattle.std.specs.List.{flat_map}
use Rattle.fp_model.specs.declared.definitions.Defs.{Defs}
use Rattle.fp_model.specs.declared.database.Db.{Db}
use Rattle.fp_model.specs.declared.log.Entry.{Entry}
use Rattle.fp_model.specs.declared.scripts.Script.{Script}
use Rattle.fp_model.specs.Groups.{entries_of}
use Rattle.fp_model.specs.Items.{AreFit, items_of, with_items}
use Rattle.fp_model.specs.LogText.{Front, IsFormat}
use Rattle.fp_model.specs.Product.{rules_of}
use Rattle.fp_model.specs.Recovery.{Holds}
use Rattle.fp_model.specs.ReplyLine.{line_of}
use Rattle.fp_model.specs.SerialHistory.{IsSerialHistory}
use Rattle.fp_model.specs.State.{start}
use Rattle.fp_site.specs.Disk.{Disk, Settles}

-- the reply lines of entries, in order
abbrev pub lines_of_entries : List Entry → List ℕ
lines_of_entries entries = flat_map line_of entries

-- definitions, scripts, and the front of a log that is made for them
module _ (defs : Defs) (scripts : List Script) (front : Front) where
  -- The log begins with the open front, its groups end at a gate that stands in it and isn't open, and their entries,
  -- these, are a serial history whose first line is read in the front's format. Their items are fit, and make of the
  -- segments loaded those of the last state.
  pub record IsSound (log : List ℕ) (entries : List Entry) : Type 0 where
    pub is_format : IsFormat front.format
    pub groups : List (List Entry)
    pub gate : ℕ
    pub holds : Holds front log groups gate
    pub stands : gate < length log
    pub all : entries ≡ entries_of groups
    pub last : Db
    pub history : IsSerialHistory (rules_of defs scripts) front.format entries last
    pub fit : AreFit defs (items_of entries)
    pub made : with_items defs.msdbs (start defs).msdbs (items_of entries) ≡ last.msdbs

  -- A read of the log gives these entries, and is sound. So is each log that a crash now may leave, and each that a
  -- sync may make of these: a sync may mix them where they differ.
  pub record IsSafe (disk : Disk) (entries : List Entry) : Type 0 where
    pub now : IsSound (disk.contents 0) entries
    pub crash : (image : List ℕ) → Settles disk 0 image → (left : List Entry) × IsSound image left

  -- the log is sound, and begins with these entries
  pub record BeginsWith (log : List ℕ) (earlier : List Entry) : Type 0 where
    pub later : List Entry
    pub sound : IsSound log (earlier ++ later)

  -- So is the log that a read gives, and each that a sync may make of those that a crash now may leave. A log need not
  -- be for good: where a call failed, those may differ, and all of them begin so.
  pub record IsSafeFrom (disk : Disk) (earlier : List Entry) : Type 0 where
    pub now : BeginsWith (disk.contents 0) earlier
    pub crash : (image : List ℕ) → Settles disk 0 image → BeginsWith image earlier
