-- What the steps of a run make of the entries, and the calls that they make on the disk.
use Rattle.std.specs.Prelude.{◌≡◌, ℕ, ◌+◌, ◌*◌, ◌≤◌, ◌<◌, Bool, true, false, List, [], ◌∷◌, ◌++◌, length, take, drop}
use Rattle.fp_site.specs.Disk.{Disk, Snapshot, Torn, Settles, Sends, Differs, Elapses, Leaves, IsLawful}
use Rattle.fp_model.specs.declared.log.Item.{Item}
use Rattle.fp_model.specs.declared.log.Entry.{Entry}
use Rattle.fp_model.specs.Items.{begins_with_image, items_of}
use Rattle.area_redo.specs.Redo.{AreaBytes, Layout, count_in, names, redone, ComesWhole}
use Rattle.area_redo.specs.Standing.{Way, all_of, sealed_of, since_mark, all_since_mark}

-- ---- the entries

-- the place of the next entry in the log
abbrev pub next_place : Way → ℕ
next_place way = way.count + length (all_of way)

-- with one entry more
abbrev pub longer : Way → Entry → Way
longer way e = record { count = way.count; mark = way.mark; tail = way.tail; unsealed = way.unsealed ++ e ∷ [] }

-- once so many of the unsealed entries are sealed
abbrev pub with_sealed : ℕ → Way → Way
with_sealed n way = record {
  count = way.count;
  mark = way.mark;
  tail = way.tail ++ take n way.unsealed;
  unsealed = drop n way.unsealed;
}

-- with the mark behind the sealed entries
abbrev pub with_mark : Way → Way
with_mark way = record { count = way.count; mark = sealed_of way; tail = way.tail; unsealed = way.unsealed }

-- once the checkpoint that began at the mark is sure
abbrev pub from_mark : Way → Way
from_mark way = record { count = way.mark; mark = way.mark; tail = since_mark way; unsealed = way.unsealed }

-- ---- calls

-- A call on one data set: other data sets keep their contents, and a crash at any moment of it leaves what one before
-- it might have left, but for this data set, which went by this step.
pub record CallsOn (set : ℕ) (step : List ℕ → List ℕ → Type 0) (old new : Disk) : Type 0 where
  pub lawful_before : IsLawful old
  pub lawful_after : IsLawful new
  pub leaves : Leaves set old new
  pub crash : Elapses old new (Differs old set step)

-- a write of an interval, torn in any way
abbrev pub WritesInterval : Layout → ℕ → ℕ → Disk → Disk → Type 0
WritesInterval layout set ci old new = CallsOn set (Torn (ci * layout.size set) (layout.size set)) old new

-- a sync, whatever it answers
pub record SyncsSet (set : ℕ) (old new : Disk) : Type 0 where
  pub call : CallsOn set (λ before after. Settles old set after) old new
  pub contents : new.contents set ≡ old.contents set

-- this snapshot has the areas as one that a crash of the old disk may leave
pub record HasAreasOf (layout : Layout) (bytes : AreaBytes) (old : Disk) (s : Snapshot) : Type 0 where
  pub before : Snapshot
  pub left : old.may_leave before
  pub same : (set : ℕ) → 0 < count_in layout bytes set → s.images set ≡ before.images set

-- No area changes, at any moment since old.
pub record SparesAreas (layout : Layout) (bytes : AreaBytes) (old new : Disk) : Type 0 where
  pub lawful_before : IsLawful old
  pub lawful_after : IsLawful new
  pub contents : (set : ℕ) → 0 < count_in layout bytes set → new.contents set ≡ old.contents set
  pub crash : Elapses old new (HasAreasOf layout bytes old)

-- a send, whatever it answers
pub record SendsText (text : List ℕ) (old new : Disk) : Type 0 where
  pub lawful_before : IsLawful old
  pub lawful_after : IsLawful new
  pub contents : new.contents ≡ old.contents
  pub crash : Elapses old new (Sends old text)

-- ---- an entry's items

-- The items of areas whose changes are staged. An interval without an image since the mark begins with one, and so does
-- one that is new in its area.
pub record AreItemsOf (layout : Layout) (is_imaged : ℕ → ℕ → Bool) (newest staged : AreaBytes)
    (items : List Item) : Type 0 where
  pub gives : (set ci : ℕ) → redone items newest set ci ≡ staged set ci
  pub images : (set ci : ℕ) → is_imaged set ci ≡ false → begins_with_image set ci items ≡ true
  pub fresh : (set ci : ℕ) → count_in layout newest set ≤ ci → ci < count_in layout staged set → ComesWhole set ci items

-- the intervals with an image since the mark are those that entries since then name
abbrev pub AreImaged : Way → (ℕ → ℕ → Bool) → Type 0
AreImaged way is_imaged = (set ci : ℕ) → is_imaged set ci ≡ names set ci (items_of (all_since_mark way))
