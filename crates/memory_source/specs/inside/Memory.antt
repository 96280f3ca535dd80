-- What bodies and proofs need of Memory, beside what contracts say.
use Rattle.memory_source.specs.declared.failures.Failures.{Failures}
use Rattle.memory_source.specs.declared.memory.MemorySource.{MemorySource}

-- which calls fail, and how many did
abbrev pub memory_failures : MemorySource → Failures
memory_failures m = m.failures
