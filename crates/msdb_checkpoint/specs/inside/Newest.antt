-- What bodies and proofs need of Newest, beside what contracts say.
use Rattle.std.specs.Prelude.{◌≡◌, ◌⊎◌, ℕ, ◌<◌, ◌≤◌, Option, Some, None}

-- the data set of the newer of two numbers; of equal ones it is 1
abbrev pub IsNewer : Option ℕ → Option ℕ → Option ℕ → Type 0
IsNewer None None found = found ≡ None
IsNewer None (Some second) found = found ≡ Some 2
IsNewer (Some first) None found = found ≡ Some 1
IsNewer (Some first) (Some second) found =
    ((second ≤ first) × (found ≡ Some 1)) ⊎ ((first < second) × (found ≡ Some 2))
