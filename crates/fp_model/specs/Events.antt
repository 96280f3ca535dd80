-- The events of a schedule.
use Rattle.std.specs.Prelude.{⊤, ◌≤◌, length}
use Rattle.fp_model.specs.declared.definitions.Defs.{Defs}
use Rattle.fp_model.specs.declared.events.Event.{Event}
use Rattle.fp_model.specs.declared.events.Event.TheVariants as event

-- an event that schedules over these definitions have; without areas there is no PURGE
abbrev pub IsEventOf : Defs → Event → Type 0
IsEventOf defs (event.Region region) = (1 ≤ region) × (region ≤ length defs.regions)
IsEventOf defs (event.Purge set n) = ⊥
IsEventOf defs _ = ⊤
