-- How much room the log keeps free for the entries by which transactions under way would be refused.
use Rattle.std.specs.Prelude.{ℕ, ◌+◌, ◌*◌, ◌≤◌, length, max}
use Rattle.fp_model.specs.declared.definitions.Defs.{Defs}
use Rattle.fp_core.specs.declared.engine.Engine.{Engine}

-- what the refusals of all regions take at most: for each 29 bytes, and a line of 2,100
abbrev pub most_room : Defs → ℕ
most_room defs = length defs.regions * (29 + 2100)

-- The log keeps free no more than before, or than those refusals take.
abbrev pub IsFrugal : Engine → Engine → Type 0
IsFrugal before after = after.log.spare ≤ max before.log.spare (most_room before.defs.now)
