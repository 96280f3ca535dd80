-- Changed anchors and sequential inserts of a commit, staged.
use Rattle.std.specs.Prelude.{◌≡◌, ◌≢◌, ⊤, ℕ, ◌+◌, ◌<◌, ◌≤◌, ◌||◌, Bool, true, false, List, length, Some}
use Rattle.std.specs.List.{AllByRecursion, list_any}
use Rattle.fp_model.specs.declared.calls.AnchorChange.{AnchorChange}
use Rattle.fp_model.specs.declared.calls.SeqInsert.{SeqInsert}
use Rattle.fp_model.specs.declared.database.Db.{Db}
use Rattle.fp_model.specs.declared.definitions.Defs.{Defs}
use Rattle.fp_model.specs.declared.log.Item.{Item}
use Rattle.fp_model.specs.declared.log.Item.TheVariants.{Segment, Image, Range}
use Rattle.fp_model.specs.Shape.{IsDbOf}
use Rattle.fp_model.specs.WellFormed.{AreDefs}
use Rattle.ci_pool.specs.Held.{Held}
use Rattle.area_redo.specs.Redo.{AreaBytes, names, redone_at}
use Rattle.area_states.specs.declared.place.Place.{Place}
use Rattle.area_states.specs.Changes.{IsInsertable, IsStorable, with_changes, with_inserts}
use Rattle.area_states.specs.Databases.{HasAnchorOf}
use Rattle.area_states.specs.Places.{counted_by, has_anchor, place_at}
use Rattle.area_states.specs.States.{AreaState}
use Rattle.state_laws.specs.Parts.{FitsAnchorChange, FitsSeqInsert, changes_ascend}
use Rattle.area_staging.specs.Items.{DiffersAtEnds}
use Rattle.area_staging.specs.Staging.{AllAtHand}
use Rattle.dedb_area.specs.Anchors.{IsBegin}
use Rattle.dedb_area.specs.Applying.{IsFitInterval}

-- ---- what may be staged

-- The changed roots have the form of their types in each area, and the inserts are of areas with a sequential part and have
-- the length of its segments.
pub record MayStage (places : List Place) (changes : List AnchorChange) (inserts : List SeqInsert) : Type 0 where
  pub storable : (set : ℕ) (place : Place) → place_at places set ≡ Some place
      → AllByRecursion (IsStorable place) changes
  pub insertable : (set : ℕ) (place : Place) → place_at places set ≡ Some place
      → AllByRecursion (IsInsertable place) inserts

-- Changed anchors and inserts that fit databases of these definitions: a transaction's, as it comes to its commit.
pub record FitsCommit (defs : Defs) (db : Db) (changes : List AnchorChange) (inserts : List SeqInsert) : Type 0 where
  pub defined : AreDefs defs
  pub shaped : IsDbOf defs db
  pub anchors : AllByRecursion (FitsAnchorChange defs db) changes
  pub there : AllByRecursion (HasAnchorOf db) changes
  pub in_order : changes_ascend changes ≡ true
  pub dependents : AllByRecursion (FitsSeqInsert defs) inserts

-- ---- one area

-- the state of an area behind them
abbrev pub committed : Place → List AnchorChange → List SeqInsert → AreaState → AreaState
committed place changes inserts state = with_inserts place inserts (with_changes place changes state)

-- ---- all areas

-- an item of an interval of an area, within its size, that ends at or before byte 2^62
abbrev pub IsFitItem : List Place → Item → Type 0
IsFitItem places (Segment msdb key bytes) = ⊥
IsFitItem places (Image set ci bytes) = IsFitInterval places set ci (length bytes)
IsFitItem places (Range set ci at bytes) =
    (size : ℕ) × IsFitInterval places set ci size × (at + length bytes ≤ size)

-- an interval of an area that counts as many has an item only where its bytes change
abbrev pub OnlyChanges : List Place → AreaBytes → List Item → Type 0
OnlyChanges places newest items =
    (set ci : ℕ) (place : Place) → place_at places set ≡ Some place → ci < counted_by (Some place) (newest set 0)
    → names set ci items ≡ true → redone_at set ci items (newest set ci) ≢ newest set ci

-- The least item of an interval, of which these are the newest bytes: one that stood has an image only where it has no
-- item since the mark, and a range begins and ends with a byte that differs.
abbrev pub IsLeast : List Place → (ℕ → ℕ → Bool) → AreaBytes → Item → Type 0
IsLeast places imaged newest (Segment msdb key new) = ⊤
IsLeast places imaged newest (Image set ci new) =
    ci < counted_by (place_at places set) (newest set 0) → imaged set ci ≡ false
IsLeast places imaged newest (Range set ci at new) = DiffersAtEnds (newest set ci) at new

-- whether a changed anchor is one of the area, and whether an insert is
abbrev pub has_change : Place → List AnchorChange → Bool
has_change place changes = list_any (λ c. has_anchor place c.dedb c.anchor) changes

abbrev pub has_insert : Place → List SeqInsert → Bool
has_insert place inserts = list_any (λ i. has_anchor place i.dedb i.anchor) inserts

abbrev pub is_concerned : Place → List AnchorChange → List SeqInsert → Bool
is_concerned place changes inserts = has_change place changes || has_insert place inserts

-- each interval of the areas that a change or an insert is of is at hand
abbrev pub ConcernedAreAtHand : List Place → Held → AreaBytes → List AnchorChange → List SeqInsert → Type 0
ConcernedAreAtHand places pool bytes changes inserts =
    (set : ℕ) (place : Place) → place_at places set ≡ Some place → is_concerned place changes inserts ≡ true
    → AllAtHand pool set (counted_by (Some place) (bytes set 0))

-- a byte at which an interval of an area begins
pub record IsBeginIn (places : List Place) (set at : ℕ) : Type 0 where
  pub place : Place
  pub ci : ℕ
  pub is_place : place_at places set ≡ Some place
  pub begins : IsBegin place ci at
