use Rattle.area_states.proofs.Alone.{differs_here, none_changes}
use Rattle.area_states.proofs.Changing.{change_here, lists_here}
use Rattle.area_states.proofs.storing.store_one.Goals as goal

pub returns-in-Some-clause-stored : goal.returns-in-Some-clause-stored
returns-in-Some-clause-stored g c = λ told state has keeps.
    let place = c.args.place.now in
    let lies = c.in-Some.ensures.some in
    change_here place c.args.change.now _ state c.in-Some.anchor _ lies
    (c.store_here.ensures.stored told state has
    (lists_here place c.args.change.now state c.in-Some.anchor lies keeps))

pub returns-in-Some-clause-alone : goal.returns-in-Some-clause-alone
returns-in-Some-clause-alone g c = λ told state has keeps ordered one.
    let place = c.args.place.now in
    let lies = c.in-Some.ensures.some in
    c.store_here.ensures.alone told state has (lists_here place c.args.change.now state c.in-Some.anchor lies keeps)
    (ordered c.in-Some.anchor lies.below)
    (differs_here place state c.args.change.now c.in-Some.anchor lies one)

pub returns-in-None-clause-alone : goal.returns-in-None-clause-alone
returns-in-None-clause-alone g c = λ told state has keeps ordered one. none_changes _
