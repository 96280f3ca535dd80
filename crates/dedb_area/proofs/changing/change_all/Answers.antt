use Rattle.std.proofs.Common.{ap, sym, subst}
use Rattle.std.specs.Prelude.{Err}
use Rattle.area_states.specs.Changes.{AllKeepLists, OneChanges, count_of, with_changes}
use Rattle.dedb_area.proofs.CommitLemmas.{full_before, room_before}
use Rattle.dedb_area.proofs.StageLemmas.{same_fault_of}
use Rattle.dedb_area.proofs.changing.change_all.Goals as goal
use Rattle.plain_laws.proofs.Results.{at_ok}

pub returns-in-Ok-clause-room : goal.returns-in-Ok-clause-room
returns-in-Ok-clause-room g c = λ told state has fits.
    let place = c.args.place.now in
    let changes = c.args.changes.now in
    room_before c.append_all.result place changes c.args.inserts.now state
    (c.append_all.ensures.room (c.store_all.ensures.goes_on.tells told) (with_changes place changes state)
    (c.in-Ok.ensures.stored told state has fits.lists))

pub returns-in-Ok-clause-full : goal.returns-in-Ok-clause-full
returns-in-Ok-clause-full g c = λ told state has fits begin end n is.
    let place = c.args.place.now in
    let changes = c.args.changes.now in
    full_before place changes c.args.inserts.now state begin end n
    (c.append_all.ensures.full (c.store_all.ensures.goes_on.tells told) (with_changes place changes state)
    (c.in-Ok.ensures.stored told state has fits.lists) fits.ordered begin end n is)

pub returns-in-Ok-clause-sound : goal.returns-in-Ok-clause-sound
returns-in-Ok-clause-sound g c = λ told state has fits.
    c.append_all.ensures.sound (c.store_all.ensures.goes_on.tells told)
    (with_changes c.args.place.now c.args.changes.now state) (c.in-Ok.ensures.stored told state has fits.lists)
    fits.ordered

pub returns-in-Err-clause-sound : goal.returns-in-Err-clause-sound
returns-in-Err-clause-sound g c = λ told state has fits ci is.
    c.in-Err.ensures.sound told state has fits.lists ci
    (ap Err (c.insert_fault.ensures.damaged ci (same_fault_of c.insert_fault.result _ is)))

pub returns-in-Ok-clause-one : goal.returns-in-Ok-clause-one
returns-in-Ok-clause-one g c = λ told state has fits one.
    let place = c.args.place.now in
    let old = g.I.Intervals.intervals c.args.i.now in
    let keeps = (subst (AllKeepLists place state) one.only fits.lists).0 in
    let alone = c.in-Ok.ensures.alone told state has one.change one.only keeps one.ordered one.differs in
    let idle = c.append_all.ensures.idle (ap (count_of place) one.no_insert) in
    at_ok c.append_all.result (OneChanges old (g.I.Intervals.intervals c.append_all.new.i))
    (subst (λ x. OneChanges old (g.I.Intervals.intervals x)) (sym idle) alone)
