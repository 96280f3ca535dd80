use Rattle.std.proofs.Common.{◌∙◌, sym}
use Rattle.fp_model.specs.State.{key_of}
use Rattle.key_order.proofs.Ascending.{found_at, found_there}
use Rattle.msdb_store.proofs.table.Table.look.Goals as goal

pub returns-in-Stands : goal.returns-in-Stands
returns-in-Stands c up =
    let p = c.in-Stands.ensures.place up in
    c.get.ensures ∙ p.2 ∙ sym (found_there (key_of c.args.self.now.fields) c.args.key.now c.args.self.now.segments.items
    c.in-Stands.at p.1 p.0 up p.2 p.3)

pub returns-in-Lacks : goal.returns-in-Lacks
returns-in-Lacks c up =
    let p = c.in-Lacks.ensures.place up in
    sym (found_at (key_of c.args.self.now.fields) c.args.key.now c.args.self.now.segments.items c.in-Lacks.field-0 up
    p.0 ∙ p.1)
