-- What contracts see of a transaction under way, as far as it has to do with data entry databases.
use Rattle.std.specs.Prelude.{◌≡◌, ℕ, ◌<◌, List, true, false, ◌==◌, if◌then◌else◌, Option, Some, None, is_some, length, slice_get, unwrap_or}
use Rattle.fp_model.specs.declared.calls.Mode.{Mode}
use Rattle.fp_model.specs.declared.calls.Resource.{Resource}
use Rattle.fp_model.specs.declared.calls.Resource.TheVariants.{Anchor}
use Rattle.fp_model.specs.declared.calls.SeqInsert.{SeqInsert}
use Rattle.fp_model.specs.declared.database.Db.{Db}
use Rattle.fp_model.specs.declared.definitions.DedbDef.{DedbDef}
use Rattle.fp_model.specs.Order.{Place}
use Rattle.fp_model.specs.Shape.{is_anchor}
use Rattle.fp_model.specs.Workspace.{DedbPosition, Workspace, no_dedb_position}
use Rattle.dli_tree.specs.InOrder.{any_ends}
use Rattle.state_laws.specs.Workspaces.{FitsPlace}
use Rattle.dedb_calls.specs.Anchors.{Ascend, Sees, changes_in, held_at}
use Rattle.dedb_calls.specs.declared.anchors.HeldAnchor.{HeldAnchor}

-- A position for each database, the anchors that are held, and the sequential inserts in call order.
pub record DedbProgress : Type 0 where
  pub positions : List DedbPosition
  pub anchors : List HeldAnchor
  pub inserts : List SeqInsert

-- as a part of all that the transaction keeps to itself
abbrev pub with_progress : DedbProgress → Workspace → Workspace
with_progress work own =
    record own { dedbs = work.positions; changes = changes_in work.anchors; inserts = work.inserts }

abbrev pub position_in : DedbProgress → ℕ → DedbPosition
position_in work dedb = unwrap_or (slice_get work.positions dedb) no_dedb_position

-- the place that is held in a database
abbrev pub held_in : DedbProgress → ℕ → Option Place
held_in work dedb = if (position_in work dedb).held then (position_in work dedb).place else None

-- The transaction has the roots of each anchor that is locked so.
abbrev pub Knows : (Resource → Option Mode) → List HeldAnchor → Type 0
Knows held anchors =
    (dedb anchor : ℕ) → is_some (held (Anchor dedb anchor)) ≡ true → is_some (held_at anchors dedb anchor) ≡ true

-- What is kept of one database: it has a position; each anchor held of it has its shape, so all segments there have
-- their types' lengths; and the place that is held, if one is, is one of a segment.
pub record FitsDedb (def : DedbDef) (dedb : ℕ) (work : DedbProgress) : Type 0 where
  pub counted : dedb < length work.positions
  pub shapes : (anchor : ℕ) (a : HeldAnchor) → held_at work.anchors dedb anchor ≡ Some a
      → is_anchor def anchor any_ends a.roots ≡ true
  pub place : (place : Place) → held_in work dedb ≡ Some place → FitsPlace def dedb place

-- It is a transaction's under these definitions: a position for each database, anchors that ascend by database and
-- number, and of each database what fits it.
pub record IsDedbWorkOf (defs : List DedbDef) (work : DedbProgress) : Type 0 where
  pub count : length work.positions ≡ length defs
  pub order : Ascend work.anchors
  pub each : (dedb : ℕ) (def : DedbDef) → slice_get defs dedb ≡ Some def → FitsDedb def dedb work

-- what a call to one database leaves of all else
pub record GoesOn (dedb : ℕ) (old new : DedbProgress) : Type 0 where
  pub count : length new.positions ≡ length old.positions
  pub order : Ascend old.anchors → Ascend new.anchors
  pub positions : (d : ℕ) → (d == dedb) ≡ false → slice_get new.positions d ≡ slice_get old.positions d
  pub anchors : (d anchor : ℕ) → (d == dedb) ≡ false
      → held_at new.anchors d anchor ≡ held_at old.anchors d anchor
  pub known : (d anchor : ℕ)
      → is_some (held_at new.anchors d anchor) ≡ is_some (held_at old.anchors d anchor)
  pub sees : (db : Db) → Sees db old.anchors → Sees db new.anchors
