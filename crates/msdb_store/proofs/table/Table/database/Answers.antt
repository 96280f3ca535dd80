use Rattle.std.proofs.Common.{◌∙◌, ◌∷◌, ◌++◌, [], List, ℕ, ap, sym, take, rules}
use Rattle.std.proofs.lemmas.List.{take_more}
use Rattle.std.proofs.lemmas.Option.{get_or_from_slice_get}
use Rattle.msdb_store.proofs.table.Table.database.Goals as goal

pub loop-at-preserved : goal.loop-at-preserved
loop-at-preserved c =
    let items = c.args.self.now.segments.items in
    let at = c.loop-at.at in
    let copy = c.in_ok-from_slice.field-0 in
    c.in_ok-push.ensures.ok
    ∙ ap (λ (xs : List (List ℕ)). xs ++ copy ∷ []) c.loop-at.invariant
    ∙ ap (λ (x : List ℕ). take at items ++ x ∷ []) (c.in_ok-from_slice.ensures ∙ sym
    (get_or_from_slice_get items at c.at.result.now copy c.at.ensures))
    ∙ sym (take_more items at copy (search rules))
