use Rattle.std.proofs.Common.{◌≡◌, ◌∙◌, ◌<◌, ◌≤◌, ◌+◌, List, ℕ, ap, sym, subst, length, take, slice_set, arith}
use Rattle.std.specs.Prelude.{insert, remove}
use Rattle.std.proofs.lemmas.List.{length-set}
use Rattle.msdb_store.specs.Slots.{AreSlots, in_slots}
use Rattle.msdb_store.proofs.Slots.{are_put, put_free, used_length}
use Rattle.msdb_store.proofs.segments.Segments.use_slot.Goals as goal
use Rattle.plain_laws.proofs.Results.{is_ok_then}

-- the first free number comes to its place
placed : (c : goal.After-self-2-1) → c.insert.new.self.items ≡ insert
    (remove c.self.inside.order.items c.self.inside.used) c.args.at c.remove-number.result
placed c =
    is_ok_then c.insert.result c.insert.new.self.items
    (insert c.remove-number.new.self.items c.args.at c.remove-number.result) c.remove-number.new.self.items
    (c.insert.ensures.succeeds (omega (
      arith,
      c.remove-number.ensures.len,
      c.remove-number.ensures.capacity,
      c.self.inside.order.ok.1,
    ))) c.insert.ensures.items
    ∙ ap (λ (ns : List ℕ). insert ns c.args.at c.remove-number.result) c.remove-number.ensures.items

low : (c : goal.After-self-2-1) → c.args.at ≤ c.self.inside.used
low c = subst (λ n. c.args.at ≤ n) (ap (λ s. length s.items) (sym c.self.view_is) ∙ used_length
    c.self.inside.slots.items c.self.inside.order.items c.self.inside.used c.self.invariant) c.requires.within

inside : (c : goal.After-self-2-1) → c.self.inside.used < length c.self.inside.order.items
inside c = omega (arith, subst (λ s. 0 < s.free) (sym c.self.view_is) c.requires.free)

pub invariant_of-self : goal.invariant_of-self
invariant_of-self c =
    let slots = c.self.inside.slots.items in
    subst (λ order. AreSlots (length (slice_set slots c.remove-number.result c.args.segment)) order
    (c.self.inside.used + 1)) (sym (placed c))
    (subst (λ n. AreSlots n (insert (remove c.self.inside.order.items c.self.inside.used) c.args.at
    c.remove-number.result) (c.self.inside.used + 1)) (sym (length-set slots c.remove-number.result c.args.segment))
    (are_put (length slots) c.self.inside.order.items c.self.inside.used c.args.at c.remove-number.result
    c.self.invariant (low c) (inside c) (sym c.remove-number.ensures.value)))

pub returns-clause-items : goal.returns-clause-items
returns-clause-items c =
    let slots = c.self.inside.slots.items in
    ap (λ order. in_slots (slice_set slots c.remove-number.result c.args.segment) (take (c.self.inside.used + 1) order))
    (placed c)
    ∙ put_free slots c.self.inside.order.items c.self.inside.used c.args.at c.remove-number.result c.args.segment
    c.self.invariant (low c) (inside c) (sym c.remove-number.ensures.value)
    ∙ ap (λ s. insert s.items c.args.at c.args.segment) c.self.view_is
