use Rattle.area_states.proofs.Behind.{newest_for}
use Rattle.dedb_area.proofs.leading.the_newest_bytes_stand_for_the_newest_databases.Goals as goal

pub returns : goal.returns
returns g c = λ way bytes db states areas stand.
    newest_for areas.places way.unsealed bytes db states stand.states_stand
