use Rattle.std.proofs.Common.{◌∙◌, ap, subst, length}
use Rattle.seq_dependents.specs.Faults.{IsAtFault}
use Rattle.seq_dependents.specs.Puts.{IsFullOf, segment_size}
use Rattle.seq_dependents.specs.Slots.{part_of as part_with}
use Rattle.area_states.proofs.appending.put_item.Goals as goal

pub returns-clause-full : goal.returns-clause-full
returns-clause-full g c = λ told begin end n e.
    subst (λ xs. IsFullOf c.args.place.now.capacity (g.I.Intervals.intervals c.args.i.now) (length xs) begin end n)
    c.in-Ok.ensures (c.append.ensures.full told begin end n e)

pub returns-clause-damaged : goal.returns-clause-damaged
returns-clause-damaged g c = λ told n e.
    let same = ap segment_size c.in-Ok.ensures ∙ c.requires.whole in
    subst (λ k. IsAtFault (part_with c.args.place.now.shape c.args.place.now.capacity k)
    (g.I.Intervals.intervals c.args.i.now) n) same (c.append.ensures.damaged told n e)
