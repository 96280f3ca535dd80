use Rattle.std.proofs.Common.{◌≡◌, true, sym, subst, ap, ◌∙◌}
use Rattle.std.specs.Prelude.{Err}
use Rattle.anchor_elements.specs.declared.fault.AnchorFault.TheVariants.{Damaged}
use Rattle.fp_model.specs.WellFormed.{has_sequential}
use Rattle.area_states.specs.Places.{sequential_length}
use Rattle.seq_dependents.specs.Faults.{IsAtFault}
use Rattle.seq_dependents.specs.Slots.{part_of as part_with}
use Rattle.area_reading.proofs.lists.down_from.Goals as goal

pub returns-in-Err-clause-damaged : goal.returns-in-Err-clause-damaged
returns-in-Err-clause-damaged g c = λ told ci e.
    let place = c.args.place.now in
    let same = c.sequential_length-length.ensures
    (subst (λ ts. has_sequential ts ≡ true) (sym c.as_slice.ensures) (c.requires.place.sequential c.requires.some))
    ∙ ap sequential_length c.as_slice.ensures in
    let fault : c.fault_of.result ≡ Damaged ci = cc in
    let is = c.in-Err.ensures.damaged told ci (ap (λ f. Err f) (c.fault_of.ensures.damaged ci fault)) in
    subst (λ k. IsAtFault (part_with place.shape place.capacity k) (g.I.Intervals.intervals c.args.i.now) ci) same is
