use Rattle.std.proofs.Common.{◌≡◌, ◌≤◌, subst, arith}
use Rattle.anchor_elements.specs.declared.fault.AnchorFault.TheVariants.{Damaged}
use Rattle.seq_dependents.specs.Control.{end_of}
use Rattle.area_states.specs.States.{newest_serial}
use Rattle.area_reading.specs.Damage.{in_part, in_root}
use Rattle.area_reading.proofs.lists.list_of.Goals as goal

pub returns-then-ends-newest-clause-damaged : goal.returns-then-ends-newest-clause-damaged
returns-then-ends-newest-clause-damaged g c = λ told ends kept root has at is ci e.
    let fault : c.past_end.result ≡ Damaged ci = cc in
    let end = ends.end in
    let past : end_of (g.I.Intervals.intervals c.args.i.now) ≤ newest_serial root.seqs =
    omega (arith, end, is, c.if-ends-newest.true) in
    in_root (c.past_end.ensures.damaged told kept root has at past ci fault)

pub returns-clause-damaged : goal.returns-clause-damaged
returns-clause-damaged g c = λ told ends kept root has at is ci e. in_part (c.down_from.ensures.damaged told ci e)
