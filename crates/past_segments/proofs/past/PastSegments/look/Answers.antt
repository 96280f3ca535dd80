use Rattle.std.proofs.Common.{◌∙◌, sym}
use Rattle.past_segments.proofs.PastLemmas.{found, found_none, same_here}
use Rattle.past_segments.proofs.Showing.{all_there}
use Rattle.past_segments.specs.Times.{FitsSlot}
use Rattle.past_segments.proofs.past.PastSegments.look.Goals as goal

pub returns-in-Stands : goal.returns-in-Stands
returns-in-Stands c = rw (sym c.self.view_is) (λ def is.
    let q = c.in-Stands.ensures.place c.self.invariant.in_order in
    let fits = all_there (FitsSlot c.self.inside.count) c.self.inside.slots c.in-Stands.at c.slot_at.result.now
    c.self.invariant.each c.slot_at.ensures in
    c.at.ensures fits.rises
    ∙ found c.self.inside.count c.self.inside.slots c.self.invariant c.args.key.now c.in-Stands.at q.0
    c.args.place c.slot_at.result.now _ is c.slot_at.ensures
    (same_here c.self.inside.slots c.in-Stands.at q.1 c.slot_at.result.now c.args.key.now q.2 c.slot_at.ensures q.3))

pub returns-in-Lacks : goal.returns-in-Lacks
returns-in-Lacks c = rw (sym c.self.view_is) (λ def is.
    let q = c.in-Lacks.ensures.place c.self.invariant.in_order in
    found_none c.self.inside.count c.self.inside.slots c.self.invariant c.args.key.now c.in-Lacks.field-0 q.0
    c.args.place _ is q.1)
