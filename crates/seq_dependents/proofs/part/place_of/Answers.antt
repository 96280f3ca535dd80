use Rattle.std.proofs.Common.{arith}
use Rattle.seq_dependents.proofs.Placing.{place_within}
use Rattle.seq_dependents.proofs.part.place_of.Goals as goal

pub overflow_cast-result : goal.overflow_cast-result
overflow_cast-result c =
    let w = place_within c.args.part.now c.slots_each.result c.slot_number.result c.from.result c.from-2.result
    c.slots_each.ensures.number c.slots_each.ensures.some c.from.ensures c.from-2.ensures in
    omega (arith, w, c.slots_each.ensures.bound)

pub returns-clause-within : goal.returns-clause-within
returns-clause-within c =
    place_within c.args.part.now c.slots_each.result c.slot_number.result c.from.result c.from-2.result
    c.slots_each.ensures.number c.slots_each.ensures.some c.from.ensures c.from-2.ensures
