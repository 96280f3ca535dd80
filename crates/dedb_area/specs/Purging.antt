-- Control of an area behind a Purge.
use Rattle.std.specs.Prelude.{◌≡◌, ℕ, ◌+◌, ◌==◌, ◌&&◌, Bool, if◌then◌else◌, List, min, Option, Some, None}
use Rattle.ci_space.specs.Interval.{IsInterval}
use Rattle.fp_model.specs.declared.log.Item.{Item}
use Rattle.ci_pool.specs.Held.{Held, staged_at}
use Rattle.seq_dependents.specs.Control.{ChangesEnds, begin_in, end_in}
use Rattle.area_states.specs.declared.place.Place.{Place}
use Rattle.dedb_area.specs.Anchors.{CountsIntervals}
use Rattle.dedb_area.specs.Control.{AreEnds}
use Rattle.area_staging.specs.Items.{IsChange}
use Rattle.dedb_area.specs.Standing.{IsUnstaged}

-- Begin moves up by n, at most to the end, and nothing else of control changes.
pub record IsPurged (n : ℕ) (old new : List ℕ) : Type 0 where
  pub ends : ChangesEnds old new (min (end_in old) (begin_in old + n)) (end_in old)
  pub is_interval : IsInterval new

-- Control that may be purged: it counts the intervals, and its ends are those of a part with so many slots.
pub record MayPurge (place : Place) (control : List ℕ) : Type 0 where
  pub counts : CountsIntervals place control
  pub are_ends : AreEnds place.capacity control

-- an area's intervals with other control
abbrev pub with_control : List ℕ → (ℕ → List ℕ) → ℕ → List ℕ
with_control control bytes ci = if ci == 0 then control else bytes ci

-- where control has an item just control is staged, with these bytes, and else nothing is
abbrev pub IsJustStaged : ℕ → List ℕ → Held → Option Item → Type 0
IsJustStaged set control pool None = IsUnstaged pool
IsJustStaged set control pool (Some item) =
    (s k : ℕ) → staged_at pool s k ≡ (if s == set && k == 0 then Some control else None)

-- A Purge of an area that is staged: control has an item exactly where its bytes are other then.
pub record IsPurgeStaged (n set : ℕ) (imaged : Bool) (control : List ℕ) (pool : Held) (item : Option Item)
    : Type 0 where
  pub new : List ℕ
  pub purged : IsPurged n control new
  pub change : IsChange imaged set 0 control new item
  pub staged : IsJustStaged set new pool item
