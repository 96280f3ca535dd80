-- What bodies and proofs need of Committing, beside what contracts say.
use Rattle.std.specs.Prelude.{◌≡◌, ◌≢◌, ℕ, ◌+◌, ◌<◌, ◌≤◌, Bool, true, false, List, [], ◌∷◌, IsSome, None, Some}
use Rattle.fp_model.specs.declared.calls.AnchorChange.{AnchorChange}
use Rattle.fp_model.specs.declared.calls.SeqInsert.{SeqInsert}
use Rattle.fp_model.specs.declared.database.Db.{Db}
use Rattle.fp_model.specs.declared.log.Item.{Item}
use Rattle.fp_model.specs.Items.{begins_with_image}
use Rattle.fp_model.specs.State.{first_area_set}
use Rattle.fp_site.specs.Disk.{Disk, Stays}
use Rattle.fp_lists.specs.Continued.{IsContinued}
use Rattle.held_intervals.specs.Holding.{Changes, held_or, listed}
use Rattle.ci_pool.specs.Held.{Held, HasSize, IsClean, pending_at, staged_at}
use Rattle.area_redo.specs.Redo.{AreaBytes, ComesWhole, GrowByImages, names, redone, redone_at}
use Rattle.area_states.specs.declared.place.Place.{Place}
use Rattle.area_states.specs.Changes.{AllKeepLists, AreOrdered, ChangesOne, HasRoom, IsTooFull, count_of, with_changes}
use Rattle.area_states.specs.Databases.{state_of}
use Rattle.area_states.specs.Places.{counted_by, layout_of, place_at}
use Rattle.area_states.specs.States.{AreaState, HasState}
use Rattle.area_staging.specs.Changing.{AreStagedBy}
use Rattle.dedb_area.specs.Anchors.{intervals_of}
use Rattle.dedb_area.specs.Committing.{committed, OnlyChanges, is_concerned}

-- ---- one area

-- They fit an area of this state: each root brings no sequential list or one that it had, and the keys of each anchor's
-- roots ascend behind the changes.
pub record FitsArea (place : Place) (state : AreaState) (changes : List AnchorChange) : Type 0 where
  pub lists : AllKeepLists place state changes
  pub ordered : AreOrdered place (with_changes place changes state)

-- its sequential part has room for all inserts of it
abbrev pub HasRoomFor : Place → AreaState → List SeqInsert → Type 0
HasRoomFor place state inserts = 0 < count_of place inserts → HasRoom place state (count_of place inserts)

-- With these changed, an area of these intervals has this state; each interval that is new is among the changed.
pub record IsChangedTo (place : Place) (count : ℕ) (bytes : ℕ → List ℕ) (state : AreaState)
    (changed : Changes) : Type 0 where
  pub after : ℕ
  pub no_fewer : count ≤ after
  pub fresh : (ci : ℕ) → count ≤ ci → ci < after → IsSome (changed ci)
  pub has : HasState place (listed after (λ ci. held_or (changed ci) (bytes ci))) state

-- They fit each area of databases.
abbrev pub FitAreas : List Place → Db → List AnchorChange → Type 0
FitAreas places db changes =
    (set : ℕ) (place : Place) → place_at places set ≡ Some place → FitsArea place (state_of place db) changes

-- the area of this data set is the first that is too full for the inserts of it, with these numbers
pub record IsFirstFull (places : List Place) (db : Db) (inserts : List SeqInsert) (set begin end n : ℕ) : Type 0 where
  pub place : Place
  pub is_place : place_at places set ≡ Some place
  pub too_full : IsTooFull place (state_of place db) inserts begin end n
  pub first : (earlier : ℕ) (other : Place) → place_at places earlier ≡ Some other → earlier < set
      → HasRoomFor other (state_of other db) inserts

-- Behind these items an area of these intervals has this state. An interval without an item since the mark begins with an
-- image, and so does each that is new; one that stood has an item only where its bytes change.
pub record MakesArea (place : Place) (set : ℕ) (imaged : ℕ → Bool) (bytes : ℕ → List ℕ) (state : AreaState)
    (items : List Item) : Type 0 where
  pub images : (ci : ℕ) → imaged ci ≡ false → begins_with_image set ci items ≡ true
  pub fresh : (ci : ℕ) → counted_by (Some place) (bytes 0) ≤ ci
      → ci < counted_by (Some place) (redone_at set 0 items (bytes 0)) → ComesWhole set ci items
  pub other : (ci : ℕ) → ci < counted_by (Some place) (bytes 0) → names set ci items ≡ true
      → redone_at set ci items (bytes ci) ≢ bytes ci
  pub has : HasState place (intervals_of place (λ ci. redone_at set ci items (bytes ci))) state

-- ---- one segment

-- One anchor is changed and no insert comes, and of an area of this state the keys of each anchor's roots ascend: the
-- change's roots differ in one segment from those that it has there.
pub record ChangesOneSegment (place : Place) (state : AreaState) (changes : List AnchorChange)
    (inserts : List SeqInsert) : Type 0 where
  pub change : AnchorChange
  pub only : changes ≡ change ∷ []
  pub no_insert : inserts ≡ []
  pub ordered : AreOrdered place state
  pub differs : ChangesOne place state change

-- of so many intervals with these bytes at most one changes, and none is new
pub record OneChanged (count : ℕ) (bytes : ℕ → List ℕ) (changed : Changes) : Type 0 where
  pub ci : ℕ
  pub others : (k : ℕ) → k < count → k ≢ ci → held_or (changed k) (bytes k) ≡ bytes k
  pub none_new : (k : ℕ) → count ≤ k → changed k ≡ None

-- ---- all areas

-- The first so many areas are staged, of databases that these bytes stand for.
pub record AreStagedUpTo (places : List Place) (n : ℕ) (imaged : ℕ → ℕ → Bool) (newest : AreaBytes)
    (changes : List AnchorChange) (inserts : List SeqInsert) (db : Db) (items : List Item) (pool : Held) : Type 0 where
  pub staged : AreStagedBy items newest pool
  pub later : (set ci : ℕ) → first_area_set + n ≤ set → names set ci items ≡ false
  pub images : (set ci : ℕ) → imaged set ci ≡ false → begins_with_image set ci items ≡ true
  pub grow : GrowByImages (layout_of places) items newest
  pub other : OnlyChanges places newest items
  pub has : (set : ℕ) (place : Place) → place_at places set ≡ Some place → set < first_area_set + n
      → HasState place (intervals_of place (redone items newest set))
      (committed place changes inserts (state_of place db))
  pub room : (set : ℕ) (place : Place) → place_at places set ≡ Some place → set < first_area_set + n
      → HasRoomFor place (state_of place db) inserts

-- Of databases one segment changes: so it is of each area, and just one is concerned.
pub record OneSegmentChanges (places : List Place) (db : Db) (changes : List AnchorChange)
    (inserts : List SeqInsert) : Type 0 where
  pub each : (set : ℕ) (place : Place) → place_at places set ≡ Some place
      → ChangesOneSegment place (state_of place db) changes inserts
  pub set : ℕ
  pub place : Place
  pub is_place : place_at places set ≡ Some place
  pub concerned : is_concerned place changes inserts ≡ true
  pub alone : (other : ℕ) (next : Place) → place_at places other ≡ Some next
      → is_concerned next changes inserts ≡ true → other ≡ set

-- ---- what stays

-- what the pool has of each area is of its size
abbrev pub AreSized : List Place → Held → Type 0
AreSized places pool = (set : ℕ) (place : Place) → place_at places set ≡ Some place → HasSize set place.shape.ci pool

-- By what the site tells: it is looked at and stays. What the pool has pending stays, and it has intervals of areas alone
-- staged beside those that it had.
pub record StagesAll {S : Type 0} (told : S → Type 0) (disk : S → Disk) (faults holds : S → ℕ) (keeps : S → S → Type 0)
    (places : List Place) (old new : S) (before after : Held) : Type 0 where
  pub continued : IsContinued told faults holds keeps old new
  pub stays : told old → Stays (disk old) (disk new)
  pub pending : (s k : ℕ) → pending_at after s k ≡ pending_at before s k
  pub others : (s k : ℕ) → ¬ IsSome (place_at places s) → staged_at after s k ≡ staged_at before s k
  pub sizes : AreSized places before → AreSized places after
  pub clean : told old → IsClean (disk old).contents before → IsClean (disk new).contents after
