use Rattle.std.proofs.Common.{◌≡◌, ◌∙◌, ap, sym, subst, length, take}
use Rattle.fp_model.specs.State.{numbers_up}
use Rattle.msdb_store.specs.Slots.{AreSlots, in_slots}
use Rattle.msdb_store.proofs.Slots.{are_up, slots_up}
use Rattle.msdb_store.proofs.segments.Segments.from_vec.Goals as goal

pub invariant_of-result : goal.invariant_of-result
invariant_of-result c =
    let count : c.len-used.result ≡ length c.args.slots.items = c.len-used.ensures ∙ c.args.slots.ok.0 in
    subst (λ order. AreSlots (length c.args.slots.items) order c.len-used.result) (sym c.in_ok-order.ensures)
    (subst (λ n. AreSlots n (numbers_up c.len-used.result 0) c.len-used.result) count (are_up c.len-used.result))

pub returns-clause-items : goal.returns-clause-items
returns-clause-items c =
    let count : c.len-used.result ≡ length c.args.slots.items = c.len-used.ensures ∙ c.args.slots.ok.0 in
    ap (λ order. in_slots c.args.slots.items (take c.len-used.result order)) c.in_ok-order.ensures ∙ slots_up
    c.args.slots.items c.len-used.result count
