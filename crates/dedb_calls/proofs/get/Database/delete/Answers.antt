use Rattle.std.proofs.Common.{◌∙◌, List, ap, not}
use Rattle.std.specs.Prelude.{filter}
use Rattle.fp_model.specs.declared.calls.SeqInsert.{SeqInsert}
use Rattle.fp_model.specs.DedbCalls.{goes_with}
use Rattle.fp_model.specs.Order.{Deletes, edited}
use Rattle.fp_model.specs.Workspace.{DedbPosition, no_dedb_position}
use Rattle.std.proofs.Common.{slice_get, unwrap_or}
use Rattle.dedb_calls.proofs.EditLemmas.{deleted_to}
use Rattle.dedb_calls.proofs.get.Database.delete.Goals as goal

pub returns-clause-work : goal.returns-clause-work
returns-clause-work c up at a its there order =
    deleted_to c.args.self.number at.anchor (edited c.args.self.def.now.segments a.roots at.path Deletes)
    (filter (λ i. not (goes_with c.args.self.def.now c.args.self.number at i)) c.args.work.now.inserts)
    c.args.work.now c.edit_held.new.self c.drop_held.new.self c.forget_parent.new.self
    (c.in_ok-edit_held.ensures.ok up at a its there order) c.in_ok-edit_held.ensures.positions
    c.drop_held.ensures.positions c.drop_held.ensures.anchors
    (c.drop_held.ensures.inserts c.args.self.def.now at
    (ap (λ (ps : List DedbPosition). (unwrap_or (slice_get ps c.args.self.number) no_dedb_position).place)
    c.in_ok-edit_held.ensures.positions ∙ its)
    ∙ ap (λ (is2 : List SeqInsert). filter (λ i. not (goes_with c.args.self.def.now c.args.self.number at i)) is2)
    c.in_ok-edit_held.ensures.inserts)
    c.forget_parent.ensures
