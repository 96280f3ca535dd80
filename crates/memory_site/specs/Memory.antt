-- A site in memory, as its callers see it.
use Rattle.std.specs.Prelude.{◌≡◌, ◌⊎◌, ℕ, ◌+◌, ◌-◌, ◌<◌, ◌^◌, Bool, true, false, [], get_or, min, Result, IsErr, OnErr, OnOk}
use Rattle.memory_site.specs.declared.memory.MemorySite.{MemorySite}
use Rattle.fp_site.specs.Disk.{Snapshot, Disk, IsDurable}
use Rattle.memory_site.specs.History.{History, disk_of}
use Rattle.memory_site.specs.Faults.{IsCounted, is_told}
use Rattle.memory_site.specs.Past.{HasRoom, past_of}
use Rattle.memory_site.specs.Sets.{HasSpare}
use Rattle.std.specs.List.{All}

-- the events since its start, the newest first
abbrev pub memory_history : MemorySite → History
memory_history m = past_of m.past

-- what it tells
abbrev pub memory_disk : MemorySite → Disk
memory_disk m = disk_of (memory_history m)

-- how many calls were made of it
abbrev pub calls_made : MemorySite → ℕ
calls_made m = m.faults.number

-- how many failed
abbrev pub memory_faults : MemorySite → ℕ
memory_faults m = m.faults.count

-- how many found no memory
abbrev pub memory_shorts : MemorySite → ℕ
memory_shorts m = m.faults.shorts

-- how many bytes were read of a data set
abbrev pub memory_reads : MemorySite → ℕ → ℕ
memory_reads m set = get_or m.reads.items set 0

-- whether the call of this number, counted from 0, is to fail
abbrev pub fails_at : MemorySite → ℕ → Bool
fails_at m number = is_told m.faults.failing.items m.faults.stop number

-- its count of faults is that of the calls told to fail and of those that found no memory
abbrev pub CountsFaults : MemorySite → Type 0
CountsFaults m = IsCounted m.faults.failing.items m.faults.stop (calls_made m) (memory_faults m) (memory_shorts m)

-- no bytes in any data set, and nothing sent
abbrev pub empty_snapshot : Snapshot
empty_snapshot = record { images = λ set. []; sent = [] }

-- it begins as this snapshot, all on the disk, and no call has been made
pub record BeginsAs (s : Snapshot) (m : MemorySite) : Type 0 where
  pub contents : (memory_disk m).contents ≡ s.images
  pub durable : (set : ℕ) → IsDurable (memory_disk m) set
  pub sent : (memory_disk m).sent ≡ s.sent
  pub calls : calls_made m ≡ 0
  pub faults : memory_faults m ≡ 0
  pub shorts : memory_shorts m ≡ 0

-- What every call of a site in memory says of itself: it counts as one, it fails where it is told to, else only where
-- it found no memory, and one that does not fail leaves the count of faults.
pub record IsCall {T E : Type 0} (old new : MemorySite) (result : Result T E) : Type 0 where
  pub calls : calls_made new ≡ min (calls_made old + 1) (2 ^ 64 - 1)
  pub fails : fails_at old (calls_made old) ≡ true → IsErr result
  pub short : fails_at old (calls_made old) ≡ false
      → OnErr result ((memory_shorts old < memory_shorts new) ⊎ (memory_shorts new ≡ 2 ^ 64 - 1))
  pub passes : OnOk result (memory_faults new ≡ memory_faults old)
  -- what it is told stays
  pub told : (number : ℕ) → fails_at new number ≡ fails_at old number

-- so many bytes more fit without memory in each data set that there is, in the bytes sent and in what is kept of the
-- calls
pub record IsPrepared (m : MemorySite) (bytes : ℕ) : Type 0 where
  pub sets : All (HasSpare bytes) m.sets.items
  pub sent : HasSpare bytes m.sent
  pub calls : HasRoom m.past bytes bytes
