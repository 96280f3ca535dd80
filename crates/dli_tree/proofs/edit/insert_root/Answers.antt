use Rattle.std.proofs.Common.{◌≡◌, ◌∙◌, ◌+◌, List, [], ap, sym, subst, length, arith}
use Rattle.std.specs.List.{insert}
use Rattle.fp_model.specs.declared.database.Node.{Node}
use Rattle.fp_model.specs.declared.database.Root.{Root}
use Rattle.fp_model.specs.declared.database.SeqItem.{SeqItem}
use Rattle.fp_model.specs.Order.{key_in, new_root, root_key}
use Rattle.dli_tree.specs.declared.place.Place.TheVariants.{Lacks, Stands}
use Rattle.dli_tree.proofs.Editing.{placed_in, put_lacks, put_stands, root_made}
use Rattle.dli_tree.proofs.edit.insert_root.Goals as goal
use Rattle.plain_laws.proofs.Results.{on_ok_by}

pub returns-in-Stands-clause-ok : goal.returns-in-Stands-clause-ok
returns-in-Stands-clause-ok c up =
    let types = c.args.segments.now in
    let roots = c.args.roots.now in
    let key = c.key_in-key.ensures ∙ ap (key_in types 0) c.as_slice.ensures in
    let place = placed_in (root_key types) _ _ roots c.as_slice-2.result.now (Stands c.in-Stands.at)
    c.as_slice-2.ensures key c.in-Stands.ensures.place up in
    on_ok_by _ _ c.insert.result (λ is. is ∙ root_made (λ (r : Root). insert roots (c.in-Stands.at + 1) r)
    c.args.bytes c.in_ok-children.ensures c.new-seqs.ensures
    ∙ put_stands (root_key types) (new_root types c.args.bytes) roots c.in-Stands.at up place) c.insert.ensures.ok

pub returns-in-Lacks-clause-ok : goal.returns-in-Lacks-clause-ok
returns-in-Lacks-clause-ok c up =
    let types = c.args.segments.now in
    let roots = c.args.roots.now in
    let key = c.key_in-key.ensures ∙ ap (key_in types 0) c.as_slice.ensures in
    let place = placed_in (root_key types) _ _ roots c.as_slice-2.result.now (Lacks c.in-Lacks.at) c.as_slice-2.ensures
    key c.in-Lacks.ensures.place up in
    on_ok_by _ _ c.insert-in-Lacks.result (λ is. is ∙ root_made (λ (r : Root). insert roots c.in-Lacks.at r)
    c.args.bytes c.in_ok-children.ensures c.new-seqs.ensures
    ∙ put_lacks (root_key types) (new_root types c.args.bytes) roots c.in-Lacks.at
    (omega (arith, c.in-Lacks.ensures.within, ap (λ (xs : List Root). length xs) c.as_slice-2.ensures)) place)
    c.insert-in-Lacks.ensures.ok
