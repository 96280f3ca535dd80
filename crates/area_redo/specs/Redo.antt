-- What items make of the bytes of areas, and what a disk must hold so that a restart gives those bytes.
use Rattle.std.specs.Prelude.{◌≡◌, ℕ, ◌+◌, ◌*◌, ◌<◌, ◌≤◌, Bool, true, false, if◌then◌else◌, List, length, fold}
use Rattle.std.specs.List.{list_any}
use Rattle.fp_site.specs.Disk.{Disk, Snapshot, read_range, written}
use Rattle.fp_site.specs.Moments.{Through}
use Rattle.fp_model.specs.declared.log.Item.{Item}
use Rattle.fp_model.specs.declared.log.Item.TheVariants.{Segment, Image, Range}
use Rattle.fp_model.specs.ItemTargets.{names_interval}
use Rattle.fp_model.specs.Items.{begins_with_image}

-- the bytes of each interval, by data set and number
abbrev pub AreaBytes : Type 0
AreaBytes = ℕ → ℕ → List ℕ

-- ---- items written over bytes

-- whether some item names this interval
abbrev pub names : ℕ → ℕ → List Item → Bool
names set ci items = list_any (names_interval set ci) items

-- what an item makes of an interval that it names: an image takes its place, and a range is written over it
abbrev pub put : Item → List ℕ → List ℕ
put (Segment msdb key bytes) old = old
put (Image set ci bytes) old = bytes
put (Range set ci at bytes) old = written old at bytes

-- an interval behind an item; one that doesn't name it leaves it as it was
abbrev pub with_item_at : ℕ → ℕ → List ℕ → Item → List ℕ
with_item_at set ci old item = if names_interval set ci item then put item old else old

-- an interval with items written over it, in their order
abbrev pub redone_at : ℕ → ℕ → List Item → List ℕ → List ℕ
redone_at set ci items old = fold (with_item_at set ci) old items

-- and all intervals
abbrev pub redone : List Item → AreaBytes → AreaBytes
redone items old = λ set ci. redone_at set ci items (old set ci)

-- each range has an image of its interval before it
abbrev pub AllBegin : List Item → Type 0
AllBegin items = (set ci : ℕ) → begins_with_image set ci items ≡ true

-- ---- areas in data sets

-- Which data sets are areas: the size of their intervals, and how many of them the bytes of interval 0, which is its
-- control, count. A data set that is no area counts none.
pub record Layout : Type 0 where
  pub size : ℕ → ℕ
  pub counted : ℕ → List ℕ → ℕ

-- a data set is an area or none, whatever its control says
abbrev pub IsLayout : Layout → Type 0
IsLayout layout = (set : ℕ) (a b : List ℕ) → 0 < layout.counted set a → 0 < layout.counted set b

-- how many intervals the control among these bytes counts; bytes of others mean nothing
abbrev pub count_in : Layout → AreaBytes → ℕ → ℕ
count_in layout bytes set = layout.counted set (bytes set 0)

-- an interval of a data set, zeros past its end
abbrev pub interval_in : ℕ → List ℕ → ℕ → List ℕ
interval_in size image ci = read_range image (ci * size) size

-- An image with these items written over it gives these bytes, in each interval that is counted; and each of those that
-- no item names lies within the image.
pub record IsRedone (size count set : ℕ) (items : List Item) (image : List ℕ) (bytes : ℕ → List ℕ) : Type 0 where
  pub gives : (ci : ℕ) → ci < count → redone_at set ci items (interval_in size image ci) ≡ bytes ci
  pub inside : (ci : ℕ) → ci < count → names set ci items ≡ false → (ci + 1) * size ≤ length image

-- so it is of the image of each area,
abbrev pub AreRedone : Layout → List Item → AreaBytes → (ℕ → List ℕ) → Type 0
AreRedone layout items bytes images =
    (set : ℕ) → IsRedone (layout.size set) (count_in layout bytes set) set items (images set) (bytes set)

-- in all that a crash now may leave,
abbrev pub Redoes : Layout → List Item → AreaBytes → Disk → Type 0
Redoes layout items bytes disk = (s : Snapshot) → disk.may_leave s → AreRedone layout items bytes s.images

-- and in all that a crash at any moment since an earlier one may have left
abbrev pub RedoesThrough : Layout → List Item → AreaBytes → Disk → Disk → Type 0
RedoesThrough layout items bytes old new = Through old new (λ s. AreRedone layout items bytes s.images)

-- Some of these items name the interval, and the first of them is an image: what stood there doesn't matter.
pub record ComesWhole (set ci : ℕ) (items : List Item) : Type 0 where
  pub named : names set ci items ≡ true
  pub image : begins_with_image set ci items ≡ true

-- an interval that more items make new in its area comes whole, whatever its data set has there
abbrev pub GrowByImages : Layout → List Item → AreaBytes → Type 0
GrowByImages layout more bytes =
    (set ci : ℕ) → count_in layout bytes set ≤ ci → ci < count_in layout (redone more bytes) set
    → ComesWhole set ci more

-- the counted intervals that owe nothing stand in the data set with these bytes, and lie within it
pub record StandsIn (size count : ℕ) (is_owed : ℕ → Bool) (contents : List ℕ) (bytes : ℕ → List ℕ) : Type 0 where
  pub same : (ci : ℕ) → ci < count → is_owed ci ≡ false → interval_in size contents ci ≡ bytes ci
  pub inside : (ci : ℕ) → ci < count → is_owed ci ≡ false → (ci + 1) * size ≤ length contents

abbrev pub AllStandIn : Layout → (ℕ → ℕ → Bool) → AreaBytes → (ℕ → List ℕ) → Type 0
AllStandIn layout is_owed bytes contents =
    (set : ℕ) → StandsIn (layout.size set) (count_in layout bytes set) (is_owed set) (contents set) (bytes set)
