use native.Mathlib.Numerals.{unary_clauses}
use Rattle.fp_model.specs.State.{key_of}
use Rattle.key_order.proofs.Ascending.{above_at, above_none}
use Rattle.msdb_store.proofs.table.Table.count_up_to.Goals as goal

pub returns-in-Stands : goal.returns-in-Stands
returns-in-Stands c up =
    let p = c.in-Stands.ensures.place up in
    simp unary_clauses (above_at (key_of c.args.self.now.fields) c.args.key.now c.args.self.now.segments.items
    c.in-Stands.at p.1 up p.0 p.2 p.3)

pub returns-in-Lacks : goal.returns-in-Lacks
returns-in-Lacks c up =
    let p = c.in-Lacks.ensures.place up in
    above_none (key_of c.args.self.now.fields) c.args.key.now c.args.self.now.segments.items c.in-Lacks.at up p.0 p.1
