-- What bodies and proofs need of Graph, beside what contracts say.
use Rattle.std.specs.Prelude.{◌≡◌, ℕ, List, [], ◌∷◌, true, ◌==◌, Option, Some, None, if◌then◌else◌}
use Rattle.fp_model.specs.Waiting.{Lock}
use Rattle.ci_locks.specs.Regions.{region_at}
use Rattle.ci_locks.specs.inside.Sets.{members}
use Rattle.ci_locks.specs.Standing.{Standing}
use Rattle.ci_locks.specs.inside.Standing.{blocking}
use Rattle.ci_locks.specs.declared.state.Region.{Region}
use Rattle.ci_locks.specs.Graph.{is_in}

-- those that stand in the way of a request, if there is one
abbrev pub next_of : Standing → Option Lock → List ℕ
next_of s None = []
next_of s (Some wanted) = blocking s wanted

-- those that a region waits for
abbrev pub next : Standing → ℕ → List ℕ
next s region = next_of s (s.asks region)

-- a region leads to the first of the list, each to the next, and the last to the goal
abbrev pub Along : (ℕ → List ℕ) → ℕ → List ℕ → ℕ → Type 0
Along next region [] goal = is_in (next region) goal ≡ true
Along next region (r ∷ rs) goal = (is_in (next region) r ≡ true) × Along next r rs goal

-- ---- by the sets of the regions, where one of them would wait for those found

abbrev pub set_of : Option Region → ℕ
set_of None = 0
set_of (Some region) = region.ahead.0

-- the set of those that a region waits for
abbrev pub set_at : List Region → ℕ → ℕ → ℕ → ℕ
set_at regions asker found region = if region == asker then found else set_of (region_at regions region)

abbrev pub leads : List Region → ℕ → ℕ → ℕ → List ℕ
leads regions asker found region = members (set_at regions asker found region)
