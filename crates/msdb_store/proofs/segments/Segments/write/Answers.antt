use Rattle.std.proofs.Common.{◌≡◌, ◌∙◌, ◌<◌, ap, sym, subst, length, Some, slice_get, slice_set}
use Rattle.msdb_store.proofs.Slots.{set_used, stands_used, used_length}
use Rattle.msdb_store.proofs.segments.Segments.write.Goals as goal

pub returns-clause-items : goal.returns-clause-items
returns-clause-items c =
    let slots = c.self.inside.slots.items in
    let order = c.self.inside.order.items in
    let used = c.self.inside.used in
    let low : c.args.at < used = subst (λ n. c.args.at < n)
    (ap (λ s. length s.items) (sym c.self.view_is) ∙ used_length slots order used c.self.invariant)
    c.requires.within in
    let there = c.index_mut.result.now in
    let stands : slice_get c.args.self.now.items c.args.at ≡ Some there =
    ap (λ s. slice_get s.items c.args.at) (sym c.self.view_is)
    ∙ stands_used slots order used c.args.at c.index-number.result.now there c.self.invariant low
    (sym c.index-number.ensures) c.index_mut.ensures.value in
    let put = c.write_over.new.slot in
    set_used slots order used c.args.at c.index-number.result.now put c.self.invariant low
    (sym c.index-number.ensures)
    ∙ ap (λ s. slice_set s.items c.args.at put) c.self.view_is
    ∙ ap (slice_set c.args.self.now.items c.args.at) (c.write_over.ensures (c.requires.long there stands))
