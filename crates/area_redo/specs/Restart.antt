-- What a restart makes of the areas, and what it needs of them.
use Rattle.std.specs.Prelude.{◌≡◌, ℕ, ◌+◌, ◌*◌, ◌<◌, ◌≤◌, false, List, [], ◌++◌, length, take}
use Rattle.fp_model.specs.declared.log.Entry.{Entry}
use Rattle.fp_model.specs.Items.{items_of}
use Rattle.area_redo.specs.Redo.{AreaBytes, Layout, count_in, interval_in, names, redone, AllBegin}
use Rattle.area_redo.specs.Standing.{Way, Owed, nothing_owed, with_entries}

-- the areas that a restart makes of images: the items of the log's tail over the intervals as it finds them
abbrev pub found_bytes : Layout → List Entry → (ℕ → List ℕ) → AreaBytes
found_bytes layout tail images = redone (items_of tail) (λ set ci. interval_in (layout.size set) (images set) ci)

-- What it needs of the tail and of the areas' images: each range has an image before it, and each interval that is
-- counted then, and that no item names, lies within its data set.
pub record IsWhole (layout : Layout) (tail : List Entry) (images : ℕ → List ℕ) : Type 0 where
  pub begin : AllBegin (items_of tail)
  pub inside : (set ci : ℕ) → ci < count_in layout (found_bytes layout tail images) set
      → names set ci (items_of tail) ≡ false → (ci + 1) * layout.size set ≤ length (images set)

-- the entries as it has them, from the chosen checkpoint's count on: all are sealed, and their end is a mark
abbrev pub found_way : ℕ → List Entry → Way
found_way count tail = record { count = count; mark = count + length tail; tail = tail; unsealed = [] }

-- all that they change is owed
abbrev pub found_owed : ℕ → List Entry → Owed
found_owed count tail = with_entries count tail nothing_owed

-- two areas are the same in the intervals that the first counts
abbrev pub AreSame : Layout → AreaBytes → AreaBytes → Type 0
AreSame layout a b = (set ci : ℕ) → ci < count_in layout a set → a set ci ≡ b set ci

-- the log's tail in the middle of a seal: so many of the unsealed entries have come to it
abbrev pub tail_with : ℕ → Way → List Entry
tail_with n way = way.tail ++ take n way.unsealed
