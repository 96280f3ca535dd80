-- The changed intervals of an area, staged in the pool, and their items.
use Rattle.std.specs.Prelude.{◌≡◌, ◌≢◌, ⊤, ℕ, ◌+◌, ◌*◌, ◌<◌, ◌≤◌, ◌^◌, Bool, true, false, List, length, IsSome, Some, None}
use Rattle.fp_site.specs.Disk.{Disk, Stays}
use Rattle.fp_lists.specs.Continued.{IsContinued}
use Rattle.fp_model.specs.Items.{begins_with_image}
use Rattle.fp_model.specs.declared.log.Item.{Item}
use Rattle.fp_model.specs.declared.log.Item.TheVariants.{Segment, Image, Range}
use Rattle.held_intervals.specs.Holding.{Changes}
use Rattle.ci_pool.specs.Held.{Held, HasSize, IsClean, newest_in, pending_at, staged_at}
use Rattle.area_redo.specs.Redo.{AreaBytes, ComesWhole, names, redone_at}
use Rattle.area_staging.specs.declared.extent.Extent.{Extent}
use Rattle.area_staging.specs.Items.{DiffersAtEnds}
use Rattle.area_staging.specs.Staging.{IsToldPool}

-- ---- what stays

-- By what the site tells: it is looked at and stays. What the pool has pending stays, and what it has staged of other data
-- sets; its clean intervals may be others, of the data sets' bytes and of their sizes still.
pub record Stages {S : Type 0} (told : S → Type 0) (disk : S → Disk) (faults holds : S → ℕ) (keeps : S → S → Type 0)
    (set size : ℕ) (old new : S) (before after : Held) : Type 0 where
  pub continued : IsContinued told faults holds keeps old new
  pub stays : told old → Stays (disk old) (disk new)
  pub pending : (s k : ℕ) → pending_at after s k ≡ pending_at before s k
  pub others : (s k : ℕ) → s ≢ set → staged_at after s k ≡ staged_at before s k
  pub sizes : (s n : ℕ) → (s ≡ set → n ≡ size) → HasSize s n before → HasSize s n after
  pub clean : told old → IsClean (disk old).contents before → IsClean (disk new).contents after

-- What a pool and a site have of an area is of its size, and clean intervals are of its data set; and the newest bytes of
-- its intervals are these.
pub record Shows (area : Extent) (contents : ℕ → List ℕ) (pool : Held) (bytes : ℕ → List ℕ) : Type 0 where
  pub told : IsToldPool area.set area.size contents pool
  pub newest : (ci : ℕ) → ci < area.count → newest_in pool contents area.set ci area.size ≡ bytes ci

-- each changed interval has the area's size, and ends at or before byte 2^62
abbrev pub AreWithin : Extent → Changes → Type 0
AreWithin area changed =
    (ci : ℕ) (bytes : List ℕ) → changed ci ≡ Some bytes
    → (length bytes ≡ area.size) × ((ci + 1) * area.size ≤ 2 ^ 62)

-- ---- one interval

-- The least item of an interval of an area, of which `count` stood before with these bytes: one that stood has an image
-- only where it has no item since the mark, and a range begins and ends with a byte that differs.
abbrev pub IsLeastOf : ℕ → (ℕ → Bool) → (ℕ → List ℕ) → Item → Type 0
IsLeastOf count imaged bytes (Segment msdb key new) = ⊤
IsLeastOf count imaged bytes (Image set ci new) = ci < count → imaged ci ≡ false
IsLeastOf count imaged bytes (Range set ci at new) = DiffersAtEnds (bytes ci) at new

-- an item of an interval of this data set, within its size, that ends at or before byte 2^62
abbrev pub IsFitFor : ℕ → ℕ → Item → Type 0
IsFitFor set size (Segment msdb key bytes) = ⊥
IsFitFor set size (Image s ci bytes) = (s ≡ set) × (length bytes ≡ size) × ((ci + 1) * size ≤ 2 ^ 62)
IsFitFor set size (Range s ci at bytes) = (s ≡ set) × (at + length bytes ≤ size) × ((ci + 1) * size ≤ 2 ^ 62)

-- ---- the intervals of an area

-- These items make the changed intervals of an area, of which `count` stood before with these bytes, and name no others. An
-- interval that has no item since the mark begins with an image, and so does one that is new; one that stood has an item
-- only where its bytes change.
pub record MakeChanges (set count : ℕ) (imaged : ℕ → Bool) (bytes : ℕ → List ℕ) (changed : Changes)
    (items : List Item) : Type 0 where
  pub none : (ci : ℕ) → changed ci ≡ None → names set ci items ≡ false
  pub gives : (ci : ℕ) (new : List ℕ) → changed ci ≡ Some new → redone_at set ci items (bytes ci) ≡ new
  pub images : (ci : ℕ) → imaged ci ≡ false → begins_with_image set ci items ≡ true
  pub fresh : (ci : ℕ) → count ≤ ci → IsSome (changed ci) → ComesWhole set ci items
  pub other : (ci : ℕ) → ci < count → names set ci items ≡ true → redone_at set ci items (bytes ci) ≢ bytes ci

-- just those of a data set's intervals that the items name are staged anew, with what these make of its bytes
pub record StagesItems (set : ℕ) (items : List Item) (bytes : ℕ → List ℕ) (before after : Held) : Type 0 where
  pub named : (ci : ℕ) → names set ci items ≡ true
      → staged_at after set ci ≡ Some (redone_at set ci items (bytes ci))
  pub others : (ci : ℕ) → names set ci items ≡ false → staged_at after set ci ≡ staged_at before set ci

-- ---- all areas

-- Just the intervals that the items name are staged, with what these make of the newest bytes.
pub record AreStagedBy (items : List Item) (newest : AreaBytes) (pool : Held) : Type 0 where
  pub named : (set ci : ℕ) → names set ci items ≡ true
      → staged_at pool set ci ≡ Some (redone_at set ci items (newest set ci))
  pub others : (set ci : ℕ) → names set ci items ≡ false → staged_at pool set ci ≡ None
