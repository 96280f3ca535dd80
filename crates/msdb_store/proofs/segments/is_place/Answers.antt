use Rattle.std.proofs.Common.{rules, ◌≤◌, arith, length, take}
use Rattle.std.proofs.lemmas.Bool.Decides.{nat_tests}
use Rattle.msdb_store.specs.Slots.{slot_of}
use Rattle.key_order.proofs.Ascending.{place_between}
use Rattle.msdb_store.proofs.Slots.{ascends_as, place_as}
use Rattle.msdb_store.proofs.segments.is_place.Goals as goal

pub returns-clause-place : goal.returns-clause-place
returns-clause-place c good up =
    let slots = c.args.slots.now in
    let numbers = c.args.numbers.now in
    let within : c.args.at ≤ length numbers = grind (arith, nat_tests, c.if-at-numbers.false) in
    place_as slots c.args.count c.args.key.now numbers c.args.at within
    (place_between (λ m. take c.args.count (slot_of slots m)) c.args.key.now numbers c.args.at
    (ascends_as slots c.args.count numbers up)
    (c.follows_lower.ensures (search rules)) (c.has_no_lower.ensures good) within)
