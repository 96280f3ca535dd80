use Rattle.std.proofs.Common.{◌≡◌, ◌∙◌, ◌<◌, ◌+◌, ◌∷◌, ◌++◌, [], ap, sym, subst, length, arith}
use Rattle.std.proofs.lemmas.Bool.Decides.{nat_tests}
use Rattle.std.proofs.lemmas.List.{length_push}
use Rattle.msdb_store.specs.Slots.{AreSlots}
use Rattle.msdb_store.proofs.Slots.{are_more, are_wider}
use Rattle.msdb_store.proofs.segments.Segments.add_slot.Goals as goal
use Rattle.msdb_store.proofs.segments.Segments.add_slot.Goals.{then-len+in_ok-push, else-len}

pub invariant_of-self-in_err-push-2 : goal.invariant_of-self-in_err-push-2
invariant_of-self-in_err-push-2 c =
    subst (λ order. AreSlots (length c.if-len.self-inside.slots.items) order c.if-len.self-inside.used)
    (sym c.in_err-push-2.ensures.items) (elim c.if-len.branch [
      | then-len+in_ok-push w ↦ subst (λ s. AreSlots (length s.slots.items) s.order.items s.used) (sym w.self-inside-is)
          (are_wider (length c.self.inside.slots.items) (length w.push.new.self.items) c.self.inside.order.items
          c.self.inside.used c.self.invariant
          (omega (
            arith,
            ap length w.in_ok-push.ensures.items,
            length_push c.self.inside.slots.items w.new-empty.result,
          )))
      | else-len w ↦ subst (λ s. AreSlots (length s.slots.items) s.order.items s.used) (sym w.self-inside-is)
          c.self.invariant
    ])

pub invariant_of-self-2 : goal.invariant_of-self-2
invariant_of-self-2 c =
    let now = c.if-len.self-inside in
    let number : c.len-number.result ≡ length now.order.items = c.len-number.ensures ∙ now.order.ok.0 in
    let ready : AreSlots (length now.slots.items) now.order.items now.used
    × (length now.order.items < length now.slots.items) = (elim c.if-len.branch [
      | then-len+in_ok-push w ↦
          let longer : length w.push.new.self.items ≡ length c.self.inside.slots.items + 1 =
          ap length w.in_ok-push.ensures.items ∙ length_push c.self.inside.slots.items w.new-empty.result in
          subst (λ s. AreSlots (length s.slots.items) s.order.items s.used
          × (length s.order.items < length s.slots.items)) (sym w.self-inside-is) (
            are_wider (length c.self.inside.slots.items) (length w.push.new.self.items) c.self.inside.order.items
                c.self.inside.used c.self.invariant (omega (arith, longer)),
            omega (arith, longer, c.self.invariant.there),
          )
      | else-len w ↦ subst (λ s. AreSlots (length s.slots.items) s.order.items s.used
          × (length s.order.items < length s.slots.items)) (sym w.self-inside-is) (
            c.self.invariant,
            grind (
              arith,
              nat_tests,
              c.self.invariant.there,
              w.if-len.false,
              c.len.ensures,
              c.len-2.ensures,
              c.self.inside.slots.ok.0,
              c.self.inside.order.ok.0,
            ),
          )
    ]) in
    subst (λ order. AreSlots (length now.slots.items) order now.used) (sym c.in_ok-push-2.ensures.items)
    (subst (λ n. AreSlots (length now.slots.items) (now.order.items ++ n ∷ []) now.used) (sym number)
    (are_more (length now.slots.items) now.order.items now.used ready.0 ready.1))
