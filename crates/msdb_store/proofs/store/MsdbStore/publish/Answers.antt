use Rattle.std.proofs.Common.{◌≡◌, ◌∷◌, subst, rules}
use Rattle.msdb_store.proofs.Publishing.{IsPublishing, first_can, one_more}
use Rattle.msdb_store.proofs.store.MsdbStore.publish.Goals as goal

pub loop-item-preserved : goal.loop-item-preserved
loop-item-preserved c defs of is room =
    let old = c.args.self.now in
    let now = c.loop-item.self in
    let next : c.loop-item.item-iterator.rest.items ≡ c.in-Some.item ∷ c.next.new.self.rest.items = search rules in
    let s = subst (IsPublishing defs old now c.args.staged) next (c.loop-item.invariant defs of is room) in
    let can = first_can defs old now c.args.staged c.in-Some.item c.next.new.self.rest.items s in
    one_more defs old now c.publish_item.new.self c.args.staged c.in-Some.item c.next.new.self.rest.items s
    (c.publish_item.ensures.msdbs defs can) (c.publish_item.ensures.of defs can) (c.publish_item.ensures.room defs can)
