use Rattle.area_states.specs.Places.{places_of}
use Rattle.dedb_area.proofs.Opened.{formatted_for, opened_stand}
use Rattle.dedb_area.proofs.formatting.formatted_areas_stand.Goals as goal

pub returns-clause-databases : goal.returns-clause-databases
returns-clause-databases g c = λ defs good formatted. formatted_for defs _ good formatted

pub returns-clause-stands : goal.returns-clause-stands
returns-clause-stands g c = λ defs areas count formatted opened.
    opened_stand (places_of defs) _ formatted count areas opened
