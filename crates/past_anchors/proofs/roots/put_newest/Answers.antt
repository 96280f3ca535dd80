use Rattle.std.proofs.Common.{◌≡◌, ◌∙◌, ◌∷◌, ℕ, List, Some, ap, map, subst, true, slice_set}
use Rattle.fp_model.specs.Commit.{with_newest}
use Rattle.fp_model.specs.Order.{root_key}
use Rattle.fp_model.specs.State.{ascend}
use Rattle.fp_model.specs.declared.database.Root.{Root}
use Rattle.fp_model.specs.declared.database.SeqItem.{SeqItem}
use Rattle.past_anchors.specs.inside.Places.{IsChangedAt}
use Rattle.past_anchors.proofs.Lists.{on_ok}
use Rattle.past_anchors.proofs.roots.put_newest.Goals as goal

pub returns-in-Some : goal.returns-in-Some
returns-in-Some c up =
    let key = root_key c.args.segments.now in
    let k : List ℕ = c.args.key.now in
    let at : ℕ = c.in-Some.at in
    let place = subst
    (λ (rs : List Root). ascend (map key rs) ≡ true → (change : Root → Root) → IsChangedAt key k change rs (Some at))
    c.as_slice.ensures c.in-Some.ensures.place in
    let root = c.item_mut.result.now in
    on_ok c.insert.result
    (λ (e : c.insert.new.self ≡ c.args.item ∷ root.seqs).
    ap (λ (s : List SeqItem). slice_set c.args.roots.now at (record root { seqs = s })) e
    ∙ place up (with_newest c.args.item) root c.item_mut.ensures.value) c.insert.ensures.ok
