-- The data entry databases of a state, and what a commit may do to them.
use Rattle.std.specs.Prelude.{◌≡◌, ℕ, ◌^◌, List, true, Some, None, slice_get}
use Rattle.std.specs.List.{AllByRecursion, AllZip}
use Rattle.fp_model.specs.Commit.{first_full}
use Rattle.fp_model.specs.Shape.{IsDedbOf, is_anchor}
use Rattle.fp_model.specs.State.{areas_of, first_area_set}
use Rattle.fp_model.specs.declared.calls.AnchorChange.{AnchorChange}
use Rattle.fp_model.specs.declared.calls.SeqInsert.{SeqInsert}
use Rattle.fp_model.specs.declared.database.AreaEnds.{AreaEnds}
use Rattle.fp_model.specs.declared.database.Db.{Db}
use Rattle.fp_model.specs.declared.database.Dedb.{Dedb}
use Rattle.fp_model.specs.declared.database.Msdb.{Msdb}
use Rattle.fp_model.specs.declared.database.Root.{Root}
use Rattle.fp_model.specs.declared.definitions.DedbDef.{DedbDef}
use Rattle.fp_model.specs.declared.definitions.Defs.{Defs}
use Rattle.state_laws.specs.Parts.{FitsAnchorChange, FitsSeqInsert, changes_ascend}

-- the state with these main storage databases and these data entry databases
abbrev pub state_of : List Msdb → List Dedb → Db
state_of msdbs dedbs = record { msdbs = msdbs; dedbs = dedbs }

-- each database has the shape of its definition
abbrev pub AreDedbsOf : Defs → List Dedb → Type 0
AreDedbsOf defs dedbs = AllZip IsDedbOf defs.dedbs dedbs

-- ends between which every serial stands
abbrev pub any_ends : AreaEnds
any_ends = record { begin = 0; end = 2 ^ 64 }

-- the roots of an anchor have its shape, whatever the ends of its area are
abbrev pub FitsAnchor : Defs → ℕ → ℕ → List Root → Type 0
FitsAnchor defs dedb anchor roots =
    (def : DedbDef) → slice_get defs.dedbs dedb ≡ Some def → is_anchor def anchor any_ends roots ≡ true

-- no area is too full for the inserts that it takes
abbrev pub HasRoom : Defs → List Dedb → List SeqInsert → Type 0
HasRoom defs dedbs inserts =
    (msdbs : List Msdb) → first_full (state_of msdbs dedbs) inserts first_area_set (areas_of defs) ≡ None

-- What a transaction hands in fits these databases, beside some main storage databases: its changed anchors ascend by
-- database and number, the roots of each fit it, and each sequential insert has its length.
pub record FitsCommit (defs : Defs) (dedbs : List Dedb) (changes : List AnchorChange) (inserts : List SeqInsert)
    : Type 0 where
  pub msdbs : List Msdb
  pub in_order : changes_ascend changes ≡ true
  pub changed : AllByRecursion (FitsAnchorChange defs (state_of msdbs dedbs)) changes
  pub inserted : AllByRecursion (FitsSeqInsert defs) inserts
