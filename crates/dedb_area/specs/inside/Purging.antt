-- What bodies and proofs need of Purging, beside what contracts say.
use Rattle.std.specs.Prelude.{◌≡◌, ◌≢◌, ℕ, ◌==◌, ◌&&◌, Bool, if◌then◌else◌, List, Option, Some, None, Result, Err, IfOk, IsErrOf, OnErr, OnOk, length}
use Rattle.std.specs.List.{AllByRecursion}
use Rattle.fp_model.specs.declared.log.Item.{Item}
use Rattle.fp_site.specs.Disk.{Disk}
use Rattle.fp_lists.specs.Faults.{Rose}
use Rattle.ci_pool.specs.Held.{Held, pending_at, staged_at}
use Rattle.area_states.specs.declared.place.Place.{Place}
use Rattle.area_staging.specs.Changing.{IsFitFor, Stages}
use Rattle.area_staging.specs.Flags.{AreFlagged}
use Rattle.area_staging.specs.Items.{HasFlag, is_imaged, items_in}
use Rattle.dedb_area.specs.declared.fault.AreaFault.{AreaFault}
use Rattle.dedb_area.specs.declared.fault.AreaFault.TheVariants as fault
use Rattle.dedb_area.specs.inside.Anchors.{ShowsArea}
use Rattle.dedb_area.specs.Purging.{IsPurgeStaged, MayPurge}
use Rattle.dedb_area.specs.Standing.{IsUnstaged}

-- Where control has an item it is staged with these bytes, and has a flag; all else of the pool stays.
abbrev pub IsControlStaged : ℕ → List ℕ → List (List Bool) → Held → Held → Option Item → Type 0
IsControlStaged set control imaged before after None = after ≡ before
IsControlStaged set control imaged before after (Some item) =
    ((s k : ℕ) → staged_at after s k ≡ (if s == set && k == 0 then Some control else staged_at before s k))
    × ((s k : ℕ) → pending_at after s k ≡ pending_at before s k)
    × (after.clean ≡ before.clean)
    × HasFlag imaged set 0

-- A Purge of one area by so many serials is staged.
pub record StagesPurge {S : Type 0} (told : S → Type 0) (disk : S → Disk) (faults holds : S → ℕ)
    (keeps : S → S → Type 0) (place : Place) (set n : ℕ) (old new : S) (before after : Held)
    (imaged imaged2 : List (List Bool)) (result : Result (Option Item) AreaFault) : Type 0 where
  pub fit : IfOk result (λ item. AllByRecursion (IsFitFor set place.shape.ci) (items_in item))
  pub flagged : IfOk result (λ item. AreFlagged imaged2 (items_in item))
  pub flags : (s k : ℕ) → is_imaged imaged2 s k ≡ is_imaged imaged s k
  pub count : length imaged2 ≡ length imaged
  pub first : (s at : ℕ) → result ≡ Err (fault.Damaged s at) → (s ≡ set) × (at ≡ 0)
  pub never_full : (s begin end m : ℕ) → result ≢ Err (fault.SeqFull s begin end m)
  pub failed : IsErrOf result fault.Device → Rose (faults old) (faults new)
  pub unstaged : IsUnstaged before → OnErr result (IsUnstaged after)
  pub stages : Stages told disk faults holds keeps set place.shape.ci old new before after
  pub purged : told old → (bytes : ℕ → List ℕ) → ShowsArea place set (disk old).contents before bytes
      → IsUnstaged before → IfOk result (IsPurgeStaged n set (is_imaged imaged set 0) (bytes 0) after)
  pub sound : told old → (bytes : ℕ → List ℕ) → ShowsArea place set (disk old).contents before bytes
      → OnOk result (MayPurge place (bytes 0))
  pub damaged : told old → (bytes : ℕ → List ℕ) → ShowsArea place set (disk old).contents before bytes
      → (s at : ℕ) → result ≡ Err (fault.Damaged s at) → ¬ MayPurge place (bytes 0)
