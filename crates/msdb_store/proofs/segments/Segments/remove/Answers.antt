use Rattle.std.proofs.Common.{◌≡◌, ◌∙◌, ◌<◌, ◌∷◌, ◌++◌, [], ◌-◌, List, ℕ, ap, sym, subst, length, take, slice_set, arith}
use Rattle.std.specs.Prelude.{remove}
use Rattle.std.proofs.lemmas.List.{length-set}
use Rattle.msdb_store.specs.Slots.{AreSlots, in_slots}
use Rattle.msdb_store.proofs.Slots.{are_out, take_out, used_length}
use Rattle.msdb_store.proofs.segments.Segments.remove.Goals as goal
use Rattle.plain_laws.proofs.Results.{is_ok_then}

-- the number comes behind all others
behind : (c : goal.After-self-2-1) → c.push.new.self.items ≡ remove c.self.inside.order.items c.args.at ++
    c.remove-number.result ∷ []
behind c =
    is_ok_then c.push.result c.push.new.self.items (c.remove-number.new.self.items ++ c.remove-number.result ∷ [])
    c.remove-number.new.self.items
    (c.push.ensures.succeeds (omega (
      arith,
      c.remove-number.ensures.len,
      c.remove-number.ensures.capacity,
      c.self.inside.order.ok.1,
    ))) c.push.ensures.items
    ∙ ap (λ (ns : List ℕ). ns ++ c.remove-number.result ∷ []) c.remove-number.ensures.items

low : (c : goal.After-self-2-1) → c.args.at < c.self.inside.used
low c = subst (λ n. c.args.at < n) (ap (λ s. length s.items) (sym c.self.view_is) ∙ used_length
    c.self.inside.slots.items c.self.inside.order.items c.self.inside.used c.self.invariant) c.requires

pub invariant_of-self : goal.invariant_of-self
invariant_of-self c =
    let slots = c.self.inside.slots.items in
    subst (λ order. AreSlots (length (slice_set slots c.remove-number.result c.new.result)) order
    (c.self.inside.used - 1)) (sym (behind c))
    (subst (λ n. AreSlots n (remove c.self.inside.order.items c.args.at ++ c.remove-number.result ∷ [])
    (c.self.inside.used - 1)) (sym (length-set slots c.remove-number.result c.new.result))
    (are_out (length slots) c.self.inside.order.items c.self.inside.used c.args.at c.remove-number.result
    c.self.invariant (low c) (sym c.remove-number.ensures.value)))

pub returns-clause-items : goal.returns-clause-items
returns-clause-items c =
    let slots = c.self.inside.slots.items in
    ap (λ order. in_slots (slice_set slots c.remove-number.result c.new.result) (take (c.self.inside.used - 1) order))
    (behind c)
    ∙ take_out slots c.self.inside.order.items c.self.inside.used c.args.at c.remove-number.result c.new.result
    c.self.invariant (low c) (sym c.remove-number.ensures.value)
    ∙ ap (λ s. remove s.items c.args.at) c.self.view_is
