use Rattle.std.proofs.Common.{◌≡◌, ◌∙◌, ap, sym}
use Rattle.fp_model.specs.declared.database.Node.{out-Node, roll-Node}
use Rattle.fp_model.specs.Order.{node_key}
use Rattle.dli_tree.specs.declared.place.Place.TheVariants.{Lacks, Stands}
use Rattle.dli_tree.proofs.Editing.{change_lacks, change_stands, placed_in}
use Rattle.dli_tree.proofs.edit.replace_twin.Goals as goal

pub returns-in-Stands : goal.returns-in-Stands
returns-in-Stands c up =
    let key = node_key c.args.segments.now c.args.step.now.segment in
    let place = placed_in key c.args.step.now.key c.as_slice-2.result.now c.args.twins.now c.as_slice.result.now
    (Stands c.in-Stands.at) c.as_slice.ensures c.as_slice-2.ensures c.in-Stands.ensures.place up in
    change_stands key c.args.step.now.key (λ n. roll-Node (record (out-Node n) { bytes = c.args.bytes }))
    c.args.twins.now c.in-Stands.at c.item_mut.result.now up place c.item_mut.ensures.value

pub returns-in-Lacks : goal.returns-in-Lacks
returns-in-Lacks c up =
    let key = node_key c.args.segments.now c.args.step.now.segment in
    let place = placed_in key c.args.step.now.key c.as_slice-2.result.now c.args.twins.now c.as_slice.result.now
    (Lacks c.in-Lacks.field-0) c.as_slice.ensures c.as_slice-2.ensures c.in-Lacks.ensures.place up in
    change_lacks key c.args.step.now.key (λ n. roll-Node (record (out-Node n) { bytes = c.args.bytes }))
    c.args.twins.now c.in-Lacks.field-0 up place
