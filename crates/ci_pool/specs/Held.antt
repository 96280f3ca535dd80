-- What a pool holds, and what its calls say.
use Rattle.std.specs.Prelude.{◌≡◌, ◌≢◌, ◌⊎◌, ℕ, ◌+◌, ◌-◌, ◌*◌, ◌<◌, ◌≤◌, ◌^◌, false, if◌then◌else◌, List, ◌∷◌, length, take, Option, Some, None, is_some, Contains, Result, Err}
use Rattle.std.specs.Map.{lookup, remove_entry}
use Rattle.fp_site.specs.Disk.{read_range}
use Rattle.ci_pool.specs.declared.cell.Cell.{Cell}
use Rattle.ci_pool.specs.declared.cell.Waiting.{Waiting}
use Rattle.ci_pool.specs.Cells.{Listed, is_key, cell_at, comes_before}

pub record Held : Type 0 where
  -- how many clean intervals it keeps at most
  pub bound : ℕ
  -- the clean intervals and their bytes, the most recently used first
  pub clean : Listed
  -- what waits to be written, and what is staged
  pub cells : List Cell

-- ---- what it has of an interval

abbrev pub waiting_of : Option Cell → Option Waiting
waiting_of None = None
waiting_of (Some cell) = cell.waiting

abbrev pub staged_of : Option Cell → Option (List ℕ)
staged_of None = None
staged_of (Some cell) = cell.staged

abbrev pub bytes_of : Option Waiting → Option (List ℕ)
bytes_of None = None
bytes_of (Some waiting) = Some waiting.bytes

-- how it is pending: published and not written
abbrev pub pending_at : Held → ℕ → ℕ → Option Waiting
pending_at pool set ci = waiting_of (cell_at set ci pool.cells)

-- what is staged
abbrev pub staged_at : Held → ℕ → ℕ → Option (List ℕ)
staged_at pool set ci = staged_of (cell_at set ci pool.cells)

-- its bytes where it is clean
abbrev pub clean_at : Held → ℕ → ℕ → Option (List ℕ)
clean_at pool set ci = lookup (is_key set ci) pool.clean

-- the newest published bytes, else those of the list
abbrev pub first_of : Option (List ℕ) → Option (List ℕ) → Option (List ℕ)
first_of None second = second
first_of (Some bytes) second = Some bytes

abbrev pub held_at : Held → ℕ → ℕ → Option (List ℕ)
held_at pool set ci = first_of (bytes_of (pending_at pool set ci)) (clean_at pool set ci)

-- the same intervals are at hand, with the same bytes
abbrev pub SameAtHand : Held → Held → Type 0
SameAtHand before after = (set ci : ℕ) → held_at after set ci ≡ held_at before set ci

-- ---- what a get answers

abbrev pub bytes_or : Option (List ℕ) → List ℕ → List ℕ
bytes_or None otherwise = otherwise
bytes_or (Some bytes) otherwise = bytes

-- an interval of a data set: zeros past the end
abbrev pub interval_in : (ℕ → List ℕ) → ℕ → ℕ → ℕ → List ℕ
interval_in contents set ci size = read_range (contents set) (ci * size) size

-- the newest published bytes of an interval, else those of its data set
abbrev pub newest_in : Held → (ℕ → List ℕ) → ℕ → ℕ → ℕ → List ℕ
newest_in pool contents set ci size = bytes_or (bytes_of (pending_at pool set ci)) (interval_in contents set ci size)

-- each clean interval's bytes are those of its data set
abbrev pub IsClean : (ℕ → List ℕ) → Held → Type 0
IsClean contents pool =
    (set ci : ℕ) (bytes : List ℕ) → Contains pool.clean ((set, ci), bytes)
    → bytes ≡ interval_in contents set ci (length bytes)

-- what the pool has of the intervals of a data set has this size
pub record HasSize (set size : ℕ) (pool : Held) : Type 0 where
  pub pending : (ci : ℕ) (waiting : Waiting) → pending_at pool set ci ≡ Some waiting → length waiting.bytes ≡ size
  pub staged : (ci : ℕ) (bytes : List ℕ) → staged_at pool set ci ≡ Some bytes → length bytes ≡ size
  pub clean : (ci : ℕ) (bytes : List ℕ) → Contains pool.clean ((set, ci), bytes) → length bytes ≡ size

-- an interval is the first of the list, the others follow in their order, and the list is cut to the bound
abbrev pub brought_first : ℕ → ℕ → ℕ → List ℕ → Listed → Listed
brought_first bound set ci bytes clean = take bound (((set, ci), bytes) ∷ remove_entry (is_key set ci) clean)

-- the pool behind a get that gave these bytes
abbrev pub after_get : ℕ → ℕ → List ℕ → Held → Held
after_get set ci bytes pool = if is_some (pending_at pool set ci)
    then pool
    else record { bound = pool.bound; clean = brought_first pool.bound set ci bytes pool.clean; cells = pool.cells }

-- ---- what waits longest, and what a checkpoint is owed

-- The interval is pending, its newest entry is sealed, and no other such one has an older newest entry. Among those
-- with one newest entry it is the first by data set and number.
pub record IsOldestSealed (pool : Held) (sealed set ci : ℕ) : Type 0 where
  pub waiting : Waiting
  pub is : pending_at pool set ci ≡ Some waiting
  pub is_sealed : waiting.newest < sealed
  pub is_oldest : (s k : ℕ) (other : Waiting) → pending_at pool s k ≡ Some other → other.newest < sealed
      → (waiting.newest < other.newest) ⊎ ((waiting.newest ≡ other.newest) × (comes_before s k set ci ≡ false))

-- no pending interval has its newest entry sealed
abbrev pub NoneSealed : Held → ℕ → Type 0
NoneSealed pool sealed =
    (s k : ℕ) (waiting : Waiting) → pending_at pool s k ≡ Some waiting → sealed ≤ waiting.newest

-- a pending interval has an unwritten change of an entry below the count
pub record Owes (pool : Held) (count set ci : ℕ) : Type 0 where
  pub waiting : Waiting
  pub is : pending_at pool set ci ≡ Some waiting
  pub is_below : waiting.oldest < count

-- no pending interval does
abbrev pub NoneOwes : Held → ℕ → Type 0
NoneOwes pool count = (s k : ℕ) (waiting : Waiting) → pending_at pool s k ≡ Some waiting → count ≤ waiting.oldest

-- the interval is the first by data set and number that owes such a change and whose newest one is sealed
pub record IsFirstOwed (pool : Held) (count sealed set ci : ℕ) : Type 0 where
  pub waiting : Waiting
  pub is : pending_at pool set ci ≡ Some waiting
  pub is_below : waiting.oldest < count
  pub is_sealed : waiting.newest < sealed
  pub is_first : (s k : ℕ) (other : Waiting) → pending_at pool s k ≡ Some other → other.oldest < count
      → other.newest < sealed → comes_before s k set ci ≡ false

-- some owe such a change, and each of these was changed again by an entry that isn't sealed
pub record AreUnsealed (pool : Held) (count sealed : ℕ) : Type 0 where
  pub set : ℕ
  pub ci : ℕ
  pub owes : Owes pool count set ci
  pub unsealed : (s k : ℕ) (waiting : Waiting) → pending_at pool s k ≡ Some waiting → waiting.oldest < count
      → sealed ≤ waiting.newest

-- ---- the site

-- By the numbers of faults: it rose where the answer is this fault, and else stayed. At its last value it can't rise.
pub record RoseAt {T E : Type 0} (fault : E) (before now : ℕ) (result : Result T E) : Type 0 where
  pub later : before ≤ now
  pub rose : result ≡ Err fault → (before < now) ⊎ (now ≡ 2 ^ 64 - 1)
  pub stayed : result ≢ Err fault → now ≡ before

-- By what is told, and by the numbers: at most so many bytes of one data set were read, and of no other.
abbrev pub ReadsUpTo : ℕ → ℕ → (ℕ → Type 0) → (ℕ → Type 0) → (ℕ → ℕ) → (ℕ → ℕ) → Type 0
ReadsUpTo this count told_before told_now before now =
    (set : ℕ) → told_now set → told_before set × (now set ≤ before set + count)
    × ((set ≡ this → ⊥) → now set ≡ before set)

-- ---- what holds of each pool

-- What waits and what is staged ends at or before byte 2^62 of its data set, and a clean interval doesn't wait.
pub record IsPool (bound : ℕ) (clean : Listed) (cells : List Cell) : Type 0 where
  pub some : 1 ≤ bound
  pub pending_ends : (set ci : ℕ) (waiting : Waiting) → waiting_of (cell_at set ci cells) ≡ Some waiting
      → (ci + 1) * length waiting.bytes ≤ 2 ^ 62
  pub staged_ends : (set ci : ℕ) (bytes : List ℕ) → staged_of (cell_at set ci cells) ≡ Some bytes
      → (ci + 1) * length bytes ≤ 2 ^ 62
  pub apart : (set ci : ℕ) (bytes : List ℕ) → Contains clean ((set, ci), bytes)
      → waiting_of (cell_at set ci cells) ≡ None
