-- What bodies and proofs need of Steps, beside what contracts say.
use Rattle.std.specs.Prelude.{ℕ, List, Option, Some, None}
use Rattle.fp_site.specs.Disk.{Disk}
use Rattle.msdb_checkpoint.specs.declared.stages.Stage.{Stage}
use Rattle.msdb_checkpoint.specs.Steps.{IsAt, steps_left, IsSure}

-- none where it is sure
abbrev pub left_behind : List ℕ → Option Stage → ℕ
left_behind body None = 0
left_behind body (Some stage) = steps_left body stage

-- what the next step finds: a further stage, or a checkpoint that is sure
abbrev pub IsNext : List ℕ → ℕ → Disk → Option Stage → Type 0
IsNext body set disk None = IsSure body set disk
IsNext body set disk (Some stage) = IsAt body set disk stage
