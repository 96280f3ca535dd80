use Rattle.std.proofs.Common.{◌∙◌, sym}
use Rattle.fp_model.specs.State.{key_of}
use Rattle.key_order.proofs.Ascending.{dropped_at, dropped_none}
use Rattle.msdb_store.proofs.table.Table.take_away.Goals as goal

pub returns-in-Stands-clause-segments : goal.returns-in-Stands-clause-segments
returns-in-Stands-clause-segments c up =
    let p = c.in-Stands.ensures.place up in
    c.remove.ensures.items ∙ sym (dropped_at (key_of c.args.self.now.fields) c.args.key.now
    c.args.self.now.segments.items c.in-Stands.at p.1 up p.0 p.2 p.3)

pub returns-in-Lacks-clause-segments : goal.returns-in-Lacks-clause-segments
returns-in-Lacks-clause-segments c up =
    let p = c.in-Lacks.ensures.place up in
    sym (dropped_none (key_of c.args.self.now.fields) c.args.key.now c.args.self.now.segments.items c.in-Lacks.field-0
    up p.0 p.1)
