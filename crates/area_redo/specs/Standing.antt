-- Where the areas stand in a run: what is owed to the data sets, what the log says of it, and what a crash leaves.
use Rattle.std.specs.Prelude.{◌≡◌, ⊤, ℕ, ◌+◌, ◌-◌, ◌<◌, ◌≤◌, Bool, true, false, ◌&&◌, ◌==◌, nat_lt, if◌then◌else◌, List, [], ◌∷◌, ◌++◌, length, drop, slice_get, Option, Some, None}
use Rattle.std.specs.Option.{option_map_or}
use Rattle.fp_site.specs.Disk.{Disk}
use Rattle.fp_model.specs.declared.log.Entry.{Entry}
use Rattle.fp_model.specs.Items.{begins_with_image, items_of}
use Rattle.area_redo.specs.Redo.{AreaBytes, Layout, names, redone, AllBegin, GrowByImages, Redoes, AllStandIn}

-- ---- entries

-- the bytes of areas behind entries
abbrev pub behind : List Entry → AreaBytes → AreaBytes
behind [] bytes = bytes
behind (e ∷ entries) bytes = behind entries (redone e.items bytes)

-- each entry's new intervals begin with an image
abbrev pub EachGrows : Layout → List Entry → AreaBytes → Type 0
EachGrows layout [] bytes = ⊤
EachGrows layout (e ∷ entries) bytes =
    GrowByImages layout e.items bytes × EachGrows layout entries (redone e.items bytes)

-- whether the entry at a place of this list has an item of the interval
abbrev pub names_at : ℕ → ℕ → List Entry → ℕ → Bool
names_at set ci entries k = option_map_or (λ e. names set ci e.items) (slice_get entries k) false

-- The entries from the chosen checkpoint's count on, the sealed ones apart from the others. The count is that of the
-- entries before them in the log. The mark is the place in the log since which an interval's first item is an image.
pub record Way : Type 0 where
  pub count : ℕ
  pub mark : ℕ
  pub tail : List Entry
  pub unsealed : List Entry

abbrev pub all_of : Way → List Entry
all_of way = way.tail ++ way.unsealed

-- how many entries of the log are sealed
abbrev pub sealed_of : Way → ℕ
sealed_of way = way.count + length way.tail

-- the sealed entries from the mark on
abbrev pub since_mark : Way → List Entry
since_mark way = drop (way.mark - way.count) way.tail

-- and all of them
abbrev pub all_since_mark : Way → List Entry
all_since_mark way = drop (way.mark - way.count) (all_of way)

-- ---- what is owed

-- An interval that waits to be written: the place in the log of the oldest entry whose change of it isn't written, and
-- of the newest that has an item of it.
pub record Due : Type 0 where
  pub oldest : ℕ
  pub newest : ℕ

-- what each interval, by data set and number, waits with
abbrev pub Owed : Type 0
Owed = ℕ → ℕ → Option Due

abbrev pub nothing_owed : Owed
nothing_owed = λ set ci. None

-- whether an interval owes a change of an entry below this place
abbrev pub is_below : ℕ → Option Due → Bool
is_below place None = false
is_below place (Some due) = nat_lt due.oldest place

abbrev pub owes_below : ℕ → Owed → ℕ → ℕ → Bool
owes_below place owed set ci = is_below place (owed set ci)

-- it owes a change of the entry at this place, or of an older one
abbrev pub IsOwedBy : ℕ → Option Due → Type 0
IsOwedBy place None = ⊥
IsOwedBy place (Some due) = due.oldest ≤ place

-- how an interval waits that the entry at this place changes
abbrev pub renewed : ℕ → Option Due → Due
renewed place None = record { oldest = place; newest = place }
renewed place (Some due) = record { oldest = due.oldest; newest = place }

-- what is owed behind an entry at this place,
abbrev pub with_entry : ℕ → Entry → Owed → Owed
with_entry place e owed = λ set ci. if names set ci e.items then Some (renewed place (owed set ci)) else owed set ci

-- behind entries from this place on,
abbrev pub with_entries : ℕ → List Entry → Owed → Owed
with_entries place [] owed = owed
with_entries place (e ∷ entries) owed = with_entries (place + 1) entries (with_entry place e owed)

-- and once an interval is written
abbrev pub without : ℕ → ℕ → Owed → Owed
without set ci owed = λ s c. if s == set && c == ci then None else owed s c

-- What one interval owes: both its entries have items of it, and no later one has.
pub record IsDue (way : Way) (set ci : ℕ) (due : Due) : Type 0 where
  pub ordered : due.oldest ≤ due.newest
  pub from : way.count ≤ due.oldest
  pub oldest : names_at set ci (all_of way) (due.oldest - way.count) ≡ true
  pub newest : names_at set ci (all_of way) (due.newest - way.count) ≡ true
  pub last : (k : ℕ) → due.newest < way.count + k → names_at set ci (all_of way) k ≡ false

-- What is owed, by the log alone.
pub record Owes (way : Way) (owed : Owed) : Type 0 where
  pub marked : way.count ≤ way.mark
  pub mark_sealed : way.mark ≤ sealed_of way
  -- each range has an image before it, from the count on and from the mark on
  pub all_begin : AllBegin (items_of (all_of way))
  pub since_begin : AllBegin (items_of (all_since_mark way))
  pub each : (set ci : ℕ) (due : Due) → owed set ci ≡ Some due → IsDue way set ci due
  -- what an unsealed entry changes isn't written
  pub waits : (set ci k : ℕ) → length way.tail ≤ k → names_at set ci (all_of way) k ≡ true
      → IsOwedBy (way.count + k) (owed set ci)

-- ---- the disk

-- Where the areas stand: these are their bytes behind the sealed entries, and the disk holds what a restart needs.
pub record Stands (layout : Layout) (way : Way) (owed : Owed) (bytes : AreaBytes) (disk : Disk) : Type 0 where
  pub owes : Owes way owed
  pub grows : EachGrows layout way.unsealed bytes
  -- the tail's items over what a crash leaves give the bytes,
  pub redoes : Redoes layout (items_of way.tail) bytes disk
  -- and what owes no sealed change stands in the data sets
  pub stand : AllStandIn layout (owes_below (sealed_of way) owed) bytes disk.contents

-- The checkpoint that began at the mark may open: nothing owes a change of an entry below the mark, and the items since
-- the mark alone, over what a crash leaves, give the bytes.
pub record MayOpen (layout : Layout) (way : Way) (owed : Owed) (bytes : AreaBytes) (disk : Disk) : Type 0 where
  pub none_below : (set ci : ℕ) (due : Due) → owed set ci ≡ Some due → way.mark ≤ due.oldest
  pub redoes : Redoes layout (items_of (since_mark way)) bytes disk

-- an interval that waits, and that no unsealed entry changes, may be written
pub record MayBeWritten (way : Way) (owed : Owed) (set ci : ℕ) : Type 0 where
  pub due : Due
  pub is_owed : owed set ci ≡ Some due
  pub is_sealed : due.newest < sealed_of way

-- ---- an entry's items

-- an interval that no entry since the mark names comes with an image
abbrev pub BeginsSinceMark : Way → Entry → Type 0
BeginsSinceMark way e =
    (set ci : ℕ) → names set ci (items_of (all_since_mark way)) ≡ false → begins_with_image set ci e.items ≡ true
