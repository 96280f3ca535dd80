-- Which entry of a log is the first that isn't legal, and which logs have none.
use Rattle.std.specs.Prelude.{◌≡◌, ℕ, ◌+◌, ◌<◌, List, length, take}
use Rattle.fp_model.specs.declared.database.Db.{Db}
use Rattle.fp_model.specs.declared.definitions.Defs.{Defs}
use Rattle.fp_model.specs.declared.log.Entry.{Entry}
use Rattle.fp_model.specs.declared.scripts.Script.{Script}
use Rattle.fp_model.specs.Groups.{HoldsGroups, IsDamaged, entries_of}
use Rattle.fp_model.specs.LogText.{Front, first_gate}
use Rattle.fp_model.specs.Product.{rules_of}
use Rattle.fp_model.specs.Rules.{Rules}
use Rattle.fp_model.specs.SerialHistory.{IsSerialHistory}
use Rattle.log_groups.specs.Images.{BeginsFor, HoldsFor}

-- The entry at this place is the first that isn't legal: those before it are a serial history, and with it they are none.
pub record IsFirstIllegal (rules : Rules) (format : ℕ) (entries : List Entry) (place : ℕ) : Type 0 where
  pub there : place < length entries
  pub last : Db
  pub before : IsSerialHistory rules format (take place entries) last
  pub never : (next : Db) → ¬ (IsSerialHistory rules format (take (place + 1) entries) next)

-- definitions, scripts, and the front of a log that is made for them
module _ (defs : Defs) (scripts : List Script) (front : Front) where
  -- The log is theirs, and can be read to a gate that isn't open; its entries, so many, are a serial history.
  pub record IsLegalLog (log : List ℕ) (count : ℕ) : Type 0 where
    pub groups : List (List Entry)
    pub gate : ℕ
    pub holds : HoldsFor front log groups gate
    pub last : Db
    pub history : IsSerialHistory (rules_of defs scripts) holds.begins.format (entries_of groups) last
    pub all : count ≡ length (entries_of groups)

  -- The log is theirs, and can be read to a gate that isn't open; the entry at this place is the first that isn't legal.
  pub record IsIllegalLog (log : List ℕ) (place : ℕ) : Type 0 where
    pub groups : List (List Entry)
    pub gate : ℕ
    pub holds : HoldsFor front log groups gate
    pub first : IsFirstIllegal (rules_of defs scripts) holds.begins.format (entries_of groups) place

-- Behind the front and some groups the log's bytes at this gate are no group.
pub record IsBrokenAt (front : Front) (log : List ℕ) (at : ℕ) : Type 0 where
  pub groups : List (List Entry)
  pub begins : BeginsFor front log
  pub holds : HoldsGroups log (first_gate front) groups at
  pub damaged : IsDamaged log at
