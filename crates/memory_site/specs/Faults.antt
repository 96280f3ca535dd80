-- The calls that a site in memory is told to fail, and its count of faults.
use Rattle.std.specs.Prelude.{◌≡◌, ℕ, zero, suc, ◌+◌, ◌-◌, ◌<◌, ◌^◌, Bool, false, ◌||◌, if◌then◌else◌, ◌==◌, nat_le, List, Option, Some, None}
use Rattle.std.specs.List.{list_any}

-- whether this number has come, of a site that stops
abbrev pub is_stopped : Option ℕ → ℕ → Bool
is_stopped None number = false
is_stopped (Some after) number = nat_le after number

-- whether the call of this number, counted from 0, is to fail
abbrev pub is_told : List ℕ → Option ℕ → ℕ → Bool
is_told failing stop number = list_any (λ n. n == number) failing || is_stopped stop number

-- how many of the calls before this number were to fail
abbrev pub told_before : List ℕ → Option ℕ → ℕ → ℕ
told_before failing stop zero = 0
told_before failing stop (suc number) = (if is_told failing stop number then 1 else 0) + told_before failing stop number

-- The count of faults is that of the calls told to fail and of the calls that found no memory, where no counter stands
-- at its last value.
abbrev pub IsCounted : List ℕ → Option ℕ → ℕ → ℕ → ℕ → Type 0
IsCounted failing stop number count shorts = number < 2 ^ 64 - 1 → count < 2 ^ 64 - 1 → shorts < 2 ^ 64 - 1
    → count ≡ told_before failing stop number + shorts
