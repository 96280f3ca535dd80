use Rattle.std.proofs.Common.{◌∙◌, map, ap, subst}
use Rattle.std.proofs.lemmas.Map.Iter.{iter_end}
use Rattle.msdb_store.specs.inside.Touches.{AreInOrder, item_of}
use Rattle.msdb_store.proofs.Stagings.{items_from, order_entries}
use Rattle.msdb_store.proofs.staging.Staging.into_items.Goals as goal

pub returns-clause-items : goal.returns-clause-items
returns-clause-items c =
    let all = iter_end (λ x. x) c.self.inside.segments.entries c.loop-key.yielded c.into_iter-key-iterator.result
    c.loop-key.key-iterator c.next.new.self c.next.result c.into_iter-key-iterator.ensures.into_iter_gives.0
    c.loop-key.yielded_by c.in-None.is c.next.ensures.steps in
    c.loop-key.invariant
    ∙ items_from (λ k. k.msdb) (λ k. k.key.items) c.loop-key.yielded c.self.inside.segments.entries all.0
    ∙ ap (map item_of) c.self.view_is

pub returns-clause-in_order : goal.returns-clause-in_order
returns-clause-in_order c =
    subst AreInOrder c.self.view_is (order_entries (λ k. k.msdb) (λ k. k.key.items) c.self.inside.segments.entries
    c.into_iter-key-iterator.ensures.into_iter_gives.5)
