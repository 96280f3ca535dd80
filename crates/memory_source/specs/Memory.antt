-- A source in memory, as its callers see it.
use Rattle.std.specs.Prelude.{◌≡◌, ℕ, ◌+◌, ◌-◌, ◌^◌, ◌==◌, Bool, List, [], drop, min, Result, is_err, if◌then◌else◌, get_or}
use Rattle.std.specs.List.{list_any}
use Rattle.fp_source.specs.declared.part.Part.{Part}
use Rattle.fp_source.specs.declared.part.Part.TheVariants.{Definitions, Scripts, Schedule, Messages}
use Rattle.memory_source.specs.declared.portion.Portion.{Portion}
use Rattle.memory_source.specs.declared.memory.MemorySource.{MemorySource}

-- what is left of a part
abbrev pub portion_left : Portion → List ℕ
portion_left portion = drop portion.at portion.bytes

-- what is left of each part
abbrev pub memory_left : MemorySource → Part → List ℕ
memory_left m Definitions = portion_left m.definitions
memory_left m Scripts = portion_left m.scripts
memory_left m Schedule = portion_left m.schedule
memory_left m Messages = portion_left m.messages

-- the part that stands at this place of four
abbrev pub part_of : List (List ℕ) → Part → List ℕ
part_of parts Definitions = get_or parts 0 []
part_of parts Scripts = get_or parts 1 []
part_of parts Schedule = get_or parts 2 []
part_of parts Messages = get_or parts 3 []

-- how many calls were made of it
abbrev pub calls_made : MemorySource → ℕ
calls_made m = m.failures.number

-- how many failed
abbrev pub memory_faults : MemorySource → ℕ
memory_faults m = m.failures.count

-- whether the call of this number, counted from 0, is to fail
abbrev pub fails_at : MemorySource → ℕ → Bool
fails_at m number = list_any (λ k. k == number) m.failures.failing.items

-- What every call says: it counts as one, it fails exactly where it is told to, and exactly then it is a fault.
pub record IsCall {T E : Type 0} (old new : MemorySource) (result : Result T E) : Type 0 where
  pub calls : calls_made new ≡ min (calls_made old + 1) (2 ^ 64 - 1)
  pub fails : is_err result ≡ fails_at old (calls_made old)
  pub counts : memory_faults new ≡ (if is_err result then min (memory_faults old + 1) (2 ^ 64 - 1) else memory_faults
      old)
  -- what it is told stays
  pub told : (number : ℕ) → fails_at new number ≡ fails_at old number
