use Rattle.std.proofs.Common.{◌∙◌, ◌<◌, ap, sym, subst, length, slice_set}
use Rattle.msdb_store.proofs.Slots.{set_used, used_length}
use Rattle.msdb_store.proofs.segments.Segments.set.Goals as goal

pub returns-clause-items : goal.returns-clause-items
returns-clause-items c =
    let slots = c.self.inside.slots.items in
    let order = c.self.inside.order.items in
    let low : c.args.at < c.self.inside.used = subst (λ n. c.args.at < n)
    (ap (λ s. length s.items) (sym c.self.view_is) ∙ used_length slots order c.self.inside.used c.self.invariant)
    c.requires in
    let put = c.put_over.new.slot in
    set_used slots order c.self.inside.used c.args.at c.index-number.result.now put c.self.invariant low
    (sym c.index-number.ensures)
    ∙ ap (λ s. slice_set s.items c.args.at put) c.self.view_is
    ∙ ap (slice_set c.args.self.now.items c.args.at) c.put_over.ensures
