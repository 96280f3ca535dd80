-- What calls that stage a commit promise, whatever they answer.
use Rattle.std.specs.Prelude.{◌≡◌, ◌≢◌, ℕ, ◌+◌, ◌<◌, Bool, true, false, List, [], length, Result, Err, Some, IfOk, IsErrOf, OnOk}
use Rattle.std.specs.List.{AllByRecursion}
use Rattle.fp_model.specs.ItemTargets.{is_ascending}
use Rattle.fp_model.specs.State.{first_area_set}
use Rattle.fp_model.specs.declared.calls.AnchorChange.{AnchorChange}
use Rattle.fp_model.specs.declared.calls.SeqInsert.{SeqInsert}
use Rattle.fp_model.specs.declared.database.Db.{Db}
use Rattle.fp_model.specs.declared.log.Item.{Item}
use Rattle.fp_site.specs.Disk.{Disk}
use Rattle.fp_site.specs.Site.{ReadsNothing}
use Rattle.fp_lists.specs.Faults.{Rose}
use Rattle.ci_pool.specs.Held.{Held, SameAtHand}
use Rattle.area_redo.specs.Redo.{AreaBytes}
use Rattle.area_states.specs.declared.place.Place.{Place}
use Rattle.area_states.specs.Changes.{IsTooFull}
use Rattle.area_states.specs.Databases.{AreFor}
use Rattle.area_states.specs.Places.{counted_by, place_at}
use Rattle.area_states.specs.States.{AreaState, HasState}
use Rattle.area_staging.specs.Changing.{IsFitFor, IsLeastOf, Stages, StagesItems}
use Rattle.area_staging.specs.inside.Changing.{AllBefore}
use Rattle.area_staging.specs.Flags.{AreFlagged}
use Rattle.area_staging.specs.Items.{HasFlag, is_imaged}
use Rattle.area_staging.specs.Staging.{AllAtHand}
use Rattle.dedb_area.specs.declared.fault.AreaFault.{AreaFault}
use Rattle.dedb_area.specs.declared.fault.AreaFault.TheVariants as fault
use Rattle.dedb_area.specs.Anchors.{AreInTime, CountsIntervals, IsBegin, intervals_of}
use Rattle.dedb_area.specs.inside.Anchors.{ShowsArea, ShowsAreas}
use Rattle.dedb_area.specs.Committing.{ConcernedAreAtHand, IsBeginIn, IsFitItem, IsLeast, committed, is_concerned}
use Rattle.dedb_area.specs.inside.Committing.{AreStagedUpTo, ChangesOneSegment, FitAreas, FitsArea, HasRoomFor, IsFirstFull, MakesArea, OneSegmentChanges, StagesAll}
use Rattle.dedb_area.specs.Standing.{IsUnstaged}

-- ---- one area

-- One area is staged, of which these are the bytes, and this the state.
pub record StagesState (place : Place) (set : ℕ) (imaged : ℕ → Bool) (bytes : ℕ → List ℕ) (changes : List AnchorChange)
    (inserts : List SeqInsert) (state : AreaState) (result : Result (List Item) AreaFault) : Type 0 where
  pub made : IfOk result (MakesArea place set imaged bytes (committed place changes inserts state))
  pub room : OnOk result (HasRoomFor place state inserts)
  pub one : ChangesOneSegment place state changes inserts → is_concerned place changes inserts ≡ true
      → IfOk result (λ items. length items ≡ 1)
  pub full : (s begin end n : ℕ) → result ≡ Err (fault.SeqFull s begin end n)
      → IsTooFull place state inserts begin end n
  pub sound : CountsIntervals place (bytes 0) → (s at : ℕ) → result ≢ Err (fault.Damaged s at)

-- One area is staged, of which these are the bytes.
pub record StagesBytes {S : Type 0} (tells_reads : S → ℕ → Type 0) (bytes_read : S → ℕ → ℕ) (place : Place) (set : ℕ)
    (imaged : ℕ → Bool) (bytes : ℕ → List ℕ) (changes : List AnchorChange) (inserts : List SeqInsert) (old new : S)
    (before after : Held) (result : Result (List Item) AreaFault) : Type 0 where
  pub staged : IfOk result (λ items. StagesItems set items bytes before after)
  pub least : IfOk result (AllByRecursion (IsLeastOf (counted_by (Some place) (bytes 0)) imaged bytes))
  pub unread : (is_concerned place changes inserts ≡ true → AllAtHand before set (counted_by (Some place) (bytes 0)))
      → ReadsNothing (tells_reads old) (tells_reads new) (bytes_read old) (bytes_read new)
  pub hand : (is_concerned place changes inserts ≡ true → AllAtHand before set (counted_by (Some place) (bytes 0)))
      → SameAtHand before after
  pub states : (state : AreaState) → HasState place (intervals_of place bytes) state → FitsArea place state changes
      → StagesState place set imaged bytes changes inserts state result

-- One area is staged, where a changed anchor or an insert is of it. It names no other area's fault.
pub record StagesArea {S : Type 0} (told : S → Type 0) (disk : S → Disk) (faults holds : S → ℕ) (keeps : S → S → Type 0)
    (tells_reads : S → ℕ → Type 0) (bytes_read : S → ℕ → ℕ) (place : Place) (set : ℕ) (changes : List AnchorChange)
    (inserts : List SeqInsert) (old new : S) (before after : Held) (imaged imaged2 : List (List Bool))
    (result : Result (List Item) AreaFault) : Type 0 where
  pub none : is_concerned place changes inserts ≡ false → IfOk result (λ items. items ≡ [])
  pub fit : IfOk result (AllByRecursion (IsFitFor set place.shape.ci))
  pub in_order : IfOk result (λ items. is_ascending items ≡ true)
  pub flagged : IfOk result (AreFlagged imaged2)
  pub flags : (s k : ℕ) → is_imaged imaged2 s k ≡ is_imaged imaged s k
  pub kept : (s k : ℕ) → HasFlag imaged s k → HasFlag imaged2 s k
  pub count : length imaged2 ≡ length imaged
  pub begins : (s at : ℕ) → result ≡ Err (fault.Damaged s at) → (s ≡ set) × ((ci : ℕ) × IsBegin place ci at)
  pub here : (s begin end n : ℕ) → result ≡ Err (fault.SeqFull s begin end n) → s ≡ set
  pub failed : IsErrOf result fault.Device → Rose (faults old) (faults new)
  pub stages : Stages told disk faults holds keeps set place.shape.ci old new before after
  pub shown : told old → (bytes : ℕ → List ℕ) → ShowsArea place set (disk old).contents before bytes
      → StagesBytes tells_reads bytes_read place set (is_imaged imaged set) bytes changes inserts old new before after
      result

-- ---- the first so many areas

-- The areas before this data set are staged: none of them is concerned and there is no item, or the one that is
-- concerned is among them, and there is one.
pub data HasOneItem (places : List Place) (changes : List AnchorChange) (inserts : List SeqInsert) (data_set : ℕ)
    (items : List Item) : Type 0 where
  not_yet : items ≡ [] → ((other : ℕ) (next : Place) → place_at places other ≡ Some next → other < data_set
      → is_concerned next changes inserts ≡ false) → HasOneItem places changes inserts data_set items
  there : length items ≡ 1 → (other : ℕ) (next : Place) → place_at places other ≡ Some next → other < data_set
      → is_concerned next changes inserts ≡ true → HasOneItem places changes inserts data_set items

-- The first so many areas are staged, of databases that these bytes stand for.
pub record StageDatabases (places : List Place) (n : ℕ) (imaged : ℕ → ℕ → Bool) (newest : AreaBytes)
    (changes : List AnchorChange) (inserts : List SeqInsert) (db : Db) (before after : Held)
    (result : Result (List Item) AreaFault) : Type 0 where
  pub staged : IsUnstaged before
      → IfOk result (λ items. AreStagedUpTo places n imaged newest changes inserts db items after)
  pub one : OneSegmentChanges places db changes inserts
      → IfOk result (HasOneItem places changes inserts (first_area_set + n))
  pub full : IsUnstaged before → (s begin end m : ℕ) → result ≡ Err (fault.SeqFull s begin end m)
      → IsFirstFull places db inserts s begin end m
  pub sound : AreInTime places newest → (s at : ℕ) → result ≢ Err (fault.Damaged s at)

-- The first so many areas are staged, of which these are the bytes.
pub record StageNewest {S : Type 0} (tells_reads : S → ℕ → Type 0) (bytes_read : S → ℕ → ℕ) (places : List Place)
    (n : ℕ) (imaged : ℕ → ℕ → Bool) (newest : AreaBytes) (changes : List AnchorChange) (inserts : List SeqInsert)
    (old new : S) (before after : Held) (result : Result (List Item) AreaFault) : Type 0 where
  pub least : IfOk result (AllByRecursion (IsLeast places imaged newest))
  pub unread : ConcernedAreAtHand places before newest changes inserts
      → ReadsNothing (tells_reads old) (tells_reads new) (bytes_read old) (bytes_read new)
  pub hand : ConcernedAreAtHand places before newest changes inserts → SameAtHand before after
  pub databases : (db : Db) → AreFor places newest db → FitAreas places db changes
      → StageDatabases places n imaged newest changes inserts db before after result

-- The first so many areas are staged, each where a changed anchor or an insert is of it.
pub record StageAreas {S : Type 0} (told : S → Type 0) (disk : S → Disk) (faults holds : S → ℕ) (keeps : S → S → Type 0)
    (tells_reads : S → ℕ → Type 0) (bytes_read : S → ℕ → ℕ) (places : List Place) (n : ℕ) (changes : List AnchorChange)
    (inserts : List SeqInsert) (old new : S) (before after : Held) (imaged imaged2 : List (List Bool))
    (result : Result (List Item) AreaFault) : Type 0 where
  pub fit : IfOk result (AllByRecursion (IsFitItem places))
  pub in_order : IfOk result (λ items. is_ascending items ≡ true)
  pub before_next : IfOk result (AllBefore (first_area_set + n) 0)
  pub flagged : IfOk result (AreFlagged imaged2)
  pub flags : (s k : ℕ) → is_imaged imaged2 s k ≡ is_imaged imaged s k
  pub count : length imaged2 ≡ length imaged
  pub begins : (s at : ℕ) → result ≡ Err (fault.Damaged s at) → IsBeginIn places s at
  pub failed : IsErrOf result fault.Device → Rose (faults old) (faults new)
  pub stages : StagesAll told disk faults holds keeps places old new before after
  pub shown : told old → (newest : AreaBytes) → ShowsAreas places (disk old).contents before newest
      → StageNewest tells_reads bytes_read places n (is_imaged imaged) newest changes inserts old new before after
      result
