use Rattle.area_states.proofs.Changing.{insert_here}
use Rattle.area_states.proofs.appending.number_one.Goals as goal

pub returns-in-Some-clause-numbered : goal.returns-in-Some-clause-numbered
returns-in-Some-clause-numbered g c = λ told state has ordered.
    insert_here c.args.place.now c.args.insert.now _ state c.in-Some.anchor _ c.in-Some.ensures.some
    (c.number_here.ensures.numbered told state has ordered)

pub returns-in-Some-clause-room : goal.returns-in-Some-clause-room
returns-in-Some-clause-room g c = λ told state has room.
    c.number_here.ensures.room told state has (room c.in-Some.ensures.some.has)
