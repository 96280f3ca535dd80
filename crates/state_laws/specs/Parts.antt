-- What a transaction has to itself that fits a state: what its commit may do to it.
use Rattle.std.specs.Prelude.{◌≡◌, ℕ, List, [], ◌∷◌, Bool, true, ◌&&◌, Some, slice_get}
use Rattle.std.specs.List.{AllByRecursion}
use Rattle.fp_model.specs.declared.database.Db.{Db}
use Rattle.fp_model.specs.declared.database.Dedb.{Dedb}
use Rattle.fp_model.specs.declared.definitions.DedbDef.{DedbDef}
use Rattle.fp_model.specs.declared.definitions.Defs.{Defs}
use Rattle.fp_model.specs.declared.calls.AnchorChange.{AnchorChange}
use Rattle.fp_model.specs.declared.calls.SeqInsert.{SeqInsert}
use Rattle.fp_model.specs.FitCalls.{IsFitDeferred}
use Rattle.fp_model.specs.Order.{sequential_type}
use Rattle.fp_model.specs.Shape.{has_length}
use Rattle.fp_model.specs.Workspace.{Workspace, change_precedes}
use Rattle.state_laws.specs.Changes.{FitsChange}

-- whether changes ascend by database and anchor
abbrev pub changes_ascend : List AnchorChange → Bool
changes_ascend [] = true
changes_ascend (c ∷ []) = true
changes_ascend (c ∷ d ∷ others) = change_precedes c d && changes_ascend (d ∷ others)

-- A change of an anchor that fits the database which it names.
pub record FitsAnchorChange (defs : Defs) (db : Db) (c : AnchorChange) : Type 0 where
  pub def : DedbDef
  pub dedb : Dedb
  pub defined : slice_get defs.dedbs c.dedb ≡ Some def
  pub now : slice_get db.dedbs c.dedb ≡ Some dedb
  pub fits : FitsChange def dedb c.anchor c.roots

-- A sequential insert as long as the sequential type of its database says.
pub record FitsSeqInsert (defs : Defs) (i : SeqInsert) : Type 0 where
  pub def : DedbDef
  pub type : ℕ
  pub defined : slice_get defs.dedbs i.dedb ≡ Some def
  pub kind : sequential_type def.segments ≡ Some type
  pub long : has_length def.segments type i.bytes ≡ true

-- A workspace that fits a state: its deferred calls fit their databases, its changes ascend, each fits, and each insert
-- has its length. What positions it has doesn't matter to a commit.
pub record FitsState (defs : Defs) (db : Db) (own : Workspace) : Type 0 where
  pub deferred : AllByRecursion (IsFitDeferred defs.msdbs) own.deferred
  pub in_order : changes_ascend own.changes ≡ true
  pub changes : AllByRecursion (FitsAnchorChange defs db) own.changes
  pub inserts : AllByRecursion (FitsSeqInsert defs) own.inserts
