use Rattle.std.proofs.Common.{◌≡◌, ◌↔◌, drop}
use Rattle.fp_model.specs.SerialHistory.{NeverFalls}
use Rattle.fp_audit.proofs.form.never_falls.Given as goal

abbrev pub invariant-loop-note : goal.invariant-loop-note
invariant-loop-note l = record {
  items : l.note-items ≡ l.fn.e.notes;
  rest : NeverFalls l.fn.e.from l.fn.e.notes l.fn.place ↔ NeverFalls l.least (drop l.note-index l.note-items) l.fn.place;
}
