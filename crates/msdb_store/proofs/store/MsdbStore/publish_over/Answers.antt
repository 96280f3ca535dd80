use Rattle.std.proofs.Common.{◌≡◌, ◌∙◌, ◌∷◌, ◌+◌, ap, sym, subst, drop}
use Rattle.std.specs.Prelude.{count_by}
use Rattle.std.proofs.lemmas.List.{drop_more}
use Rattle.fp_model.specs.Items.{with_item}
use Rattle.msdb_store.specs.Changes.{Changes}
use Rattle.msdb_store.specs.Settling.{adds}
use Rattle.msdb_store.proofs.Publishing.{IsPublishing, done_so, first_adds_none, first_can, one_more, others_add_none}
use Rattle.msdb_store.proofs.store.MsdbStore.publish_over.Goals as goal

pub loop-item-preserved : goal.loop-item-preserved
loop-item-preserved c defs of is =
    let items = c.as_slice-item-items.result.now in
    let i = c.loop-item.item-index in
    let item = c.item-item.result in
    let rest = drop (i + 1) items in
    let old = c.args.self.now in
    let now = c.loop-item.self in
    let new = c.put_item.new.self in
    let staged : Changes = record { items = items; inserts = 0 } in
    let here : drop i items ≡ item ∷ rest =
    drop_more items i item c.loop-item-test.true ∙ ap (λ x. x ∷ rest) (sym c.item-item.is) in
    let so_far = c.loop-item.invariant defs of is in
    let s = subst (IsPublishing defs old now staged) here so_far.0 in
    let none = subst (λ left. count_by (adds defs now.msdbs) left ≡ 0) here so_far.1 in
    let can = first_can defs old now staged item rest s in
    let put : new.msdbs ≡ with_item defs now.msdbs item =
    done_so c.put_item.result (c.put_item.ensures.done defs can (first_adds_none defs now.msdbs item rest none))
    (c.put_item.ensures.msdbs defs s.of s.fit.0) in (
      one_more defs old now new staged item rest s put (c.put_item.ensures.of defs s.of s.fit.0)
          (c.put_item.ensures.room defs can),
      others_add_none defs old now new staged item rest s put none,
    )
