use Rattle.std.proofs.Common.{arith, sym}
use Rattle.past_segments.proofs.PastLemmas.{above, above_none}
use Rattle.past_segments.proofs.past.PastSegments.count_up_to.Goals as goal

pub overflow_add-result : goal.overflow_add-result
overflow_add-result c = omega (arith, c.in-Stands.ensures.within, c.place_of.ensures.fits)

pub returns-in-Stands-clause-shown : goal.returns-in-Stands-clause-shown
returns-in-Stands-clause-shown c = rw (sym c.self.view_is) (λ def p is.
    let q = c.in-Stands.ensures.place c.self.invariant.in_order in
    above c.self.inside.count c.self.inside.slots c.self.invariant c.args.key.now c.in-Stands.at q.0
    p q.1 _ is q.2 q.3)

pub returns-in-Lacks-clause-shown : goal.returns-in-Lacks-clause-shown
returns-in-Lacks-clause-shown c = rw (sym c.self.view_is) (λ def p is.
    let q = c.in-Lacks.ensures.place c.self.invariant.in_order in
    above_none c.self.inside.count c.self.inside.slots c.self.invariant c.args.key.now c.in-Lacks.at q.0
    p _ is q.1)
