-- What bodies and proofs need of Sets, beside what contracts say.
use Rattle.std.specs.Prelude.{ℕ, List, filter}
use Rattle.fp_model.specs.State.{numbers_up}
use Rattle.ci_locks.specs.Sets.{has}

-- its regions, ascending
abbrev pub members : ℕ → List ℕ
members word = filter (has word) (numbers_up 64 1)
