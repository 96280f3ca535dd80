-- Intervals in memory.
use Rattle.std.specs.Prelude.{ℕ, List}
use Rattle.ci_space.specs.declared.memory.MemoryIntervals.{MemoryIntervals}

-- the bytes of each
abbrev pub intervals_of : MemoryIntervals → List (List ℕ)
intervals_of memory = memory.intervals.items

-- the numbers of the calls that fail
abbrev pub failing_of : MemoryIntervals → List ℕ
failing_of memory = memory.failing.items

-- how often a call has failed
abbrev pub faults_of : MemoryIntervals → ℕ
faults_of memory = memory.faults
