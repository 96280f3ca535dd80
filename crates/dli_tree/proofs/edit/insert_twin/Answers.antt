use Rattle.std.proofs.Common.{◌≡◌, ◌∙◌, ◌+◌, List, ap, sym, subst, length, arith}
use Rattle.std.specs.List.{insert}
use Rattle.fp_model.specs.declared.database.Node.{Node, roll-Node}
use Rattle.fp_model.specs.Order.{key_in, new_node, node_key}
use Rattle.dli_tree.specs.declared.place.Place.TheVariants.{Lacks, Stands}
use Rattle.dli_tree.proofs.Editing.{new_node_key, placed_in, put_lacks, put_stands}
use Rattle.dli_tree.proofs.edit.insert_twin.Goals as goal
use Rattle.plain_laws.proofs.Results.{on_ok_by}

pub returns-in-Stands-clause-ok : goal.returns-in-Stands-clause-ok
returns-in-Stands-clause-ok c up =
    let types = c.args.segments.now in
    let type = c.args.segment in
    let twins = c.args.twins.now in
    let key = c.key_in-key.ensures ∙ ap (key_in types type) c.as_slice.ensures ∙ sym
    (new_node_key types type c.args.bytes) in
    let place = placed_in (node_key types type) _ _ twins c.as_slice-2.result.now (Stands c.in-Stands.at)
    c.as_slice-2.ensures key c.in-Stands.ensures.place up in
    on_ok_by _ _ c.insert.result (λ is. is ∙ ap (λ (rows : List (List Node)). insert twins (c.in-Stands.at + 1)
    (roll-Node (record { bytes = c.args.bytes; children = rows }))) c.in_ok-children.ensures
    ∙ put_stands (node_key types type) (new_node types type c.args.bytes) twins c.in-Stands.at up place)
    c.insert.ensures.ok

pub returns-in-Lacks-clause-ok : goal.returns-in-Lacks-clause-ok
returns-in-Lacks-clause-ok c up =
    let types = c.args.segments.now in
    let type = c.args.segment in
    let twins = c.args.twins.now in
    let key = c.key_in-key.ensures ∙ ap (key_in types type) c.as_slice.ensures ∙ sym
    (new_node_key types type c.args.bytes) in
    let place = placed_in (node_key types type) _ _ twins c.as_slice-2.result.now (Lacks c.in-Lacks.at)
    c.as_slice-2.ensures key c.in-Lacks.ensures.place up in
    on_ok_by _ _ c.insert-in-Lacks.result (λ is. is ∙ ap
    (λ (rows : List (List Node)). insert twins c.in-Lacks.at
    (roll-Node (record { bytes = c.args.bytes; children = rows }))) c.in_ok-children.ensures
    ∙ put_lacks (node_key types type) (new_node types type c.args.bytes) twins c.in-Lacks.at
    (omega (arith, c.in-Lacks.ensures.within, ap (λ (xs : List Node). length xs) c.as_slice-2.ensures)) place)
    c.insert-in-Lacks.ensures.ok
