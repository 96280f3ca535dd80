-- What bodies and proofs need of Staging, beside what contracts say.
use Rattle.std.proofs.Common.{ℕ, List}
use Rattle.ci_pool.specs.Held.{Held, newest_in}
use Rattle.held_intervals.specs.Holding.{listed}

-- so many intervals of an area as the newest entry left them
abbrev pub pool_area : ℕ → Held → (ℕ → List ℕ) → ℕ → ℕ → List (List ℕ)
pool_area count pool contents set size = listed count (λ ci. newest_in pool contents set ci size)
