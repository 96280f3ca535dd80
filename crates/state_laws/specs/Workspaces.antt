-- A transaction's workspace on its way: what it would do to the state fits, and so does what it holds.
use Rattle.std.specs.Prelude.{◌≡◌, ℕ, List, true, false, Some, IfSome, slice_get}
use Rattle.std.specs.List.{AllByRecursion}
use Rattle.fp_model.specs.declared.calls.AnchorChange.{AnchorChange}
use Rattle.fp_model.specs.declared.database.AreaEnds.{AreaEnds}
use Rattle.fp_model.specs.declared.database.Db.{Db}
use Rattle.fp_model.specs.declared.database.Root.{Root}
use Rattle.fp_model.specs.declared.definitions.DedbDef.{DedbDef}
use Rattle.fp_model.specs.declared.definitions.Defs.{Defs}
use Rattle.fp_model.specs.declared.definitions.MsdbDef.{MsdbDef}
use Rattle.fp_model.specs.DedbCalls.{held_place, type_of_path}
use Rattle.fp_model.specs.FitCalls.{FitsKey}
use Rattle.fp_model.specs.MsdbCalls.{held_key}
use Rattle.fp_model.specs.Order.{Place, is_sequential}
use Rattle.fp_model.specs.Shape.{is_anchor}
use Rattle.fp_model.specs.Workspace.{Workspace}
use Rattle.state_laws.specs.Parts.{FitsState}

-- roots that an anchor may have, between some ends
abbrev pub MayStand : DedbDef → ℕ → List Root → Type 0
MayStand def anchor roots = (ends : AreaEnds) × (is_anchor def anchor ends roots ≡ true)

-- so does a changed anchor, also where no area has it
abbrev pub ChangeMayStand : Defs → AnchorChange → Type 0
ChangeMayStand defs c = (def : DedbDef) → slice_get defs.dedbs c.dedb ≡ Some def → MayStand def c.anchor c.roots

-- A place of a segment: its path begins at a root, and its steps are of direct segments, where its end is.
pub record FitsPlace (def : DedbDef) (dedb : ℕ) (place : Place) : Type 0 where
  pub begins : IfSome (slice_get place.path 0) (λ s. s.segment ≡ 0)
  pub direct : is_sequential def.segments (type_of_path def dedb place.path) ≡ false
      → AllByRecursion (λ s. s.serial ≡ 0) place.path

-- A workspace that fits: its commit fits the state, its changed anchors may stand, and what it holds are a key of its
-- database's length and a place of a segment.
pub record FitsWorkspace (defs : Defs) (db : Db) (own : Workspace) : Type 0 where
  pub state : FitsState defs db own
  pub changes : AllByRecursion (ChangeMayStand defs) own.changes
  pub keys : (msdb : ℕ) (def : MsdbDef) (key : List ℕ)
      → slice_get defs.msdbs msdb ≡ Some def
      → held_key def msdb own ≡ Some key
      → FitsKey key def
  pub places : (dedb : ℕ) (def : DedbDef) (place : Place)
      → slice_get defs.dedbs dedb ≡ Some def
      → held_place def dedb own ≡ Some place
      → FitsPlace def dedb place
