use Rattle.std.proofs.Common.{◌≡◌, ◌∙◌, ap, not, sym}
use Rattle.fp_model.specs.Order.{Inserts}
use Rattle.dli_tree.proofs.Editing.{edit_answer, lead_answer}
use Rattle.dli_tree.proofs.calls.insert.Goals as goal

pub returns-then-leads_to-clause-new : goal.returns-then-leads_to-clause-new
returns-then-leads_to-clause-new c order =
    let lead = lead_answer c.args.segments.now c.as_slice-segments.result.now c.args.roots.now c.as_slice.result.now
    c.args.path.now.steps c.as_slice-steps.result.now c.leads_to.result c.as_slice-segments.ensures
    c.as_slice.ensures c.as_slice-steps.ensures c.leads_to.ensures order in
    ap not (sym c.if-leads_to.true ∙ lead)

pub returns-clause-new : goal.returns-clause-new
returns-clause-new c order =
    let lead = lead_answer c.args.segments.now c.as_slice-segments.result.now c.args.roots.now c.as_slice.result.now
    c.args.path.now.steps c.as_slice-steps.result.now c.leads_to.result c.as_slice-segments.ensures
    c.as_slice.ensures c.as_slice-steps.ensures c.leads_to.ensures order in
    ap not (sym c.if-leads_to.false ∙ lead)

pub returns-clause-ok : goal.returns-clause-ok
returns-clause-ok c order is =
    edit_answer c.args.segments.now c.as_slice-segments.result.now c.args.roots.now c.edit_at.new.roots
    c.args.path.now.steps c.as_slice-steps.result.now (Inserts c.args.bytes) c.as_slice-segments.ensures
    c.as_slice-steps.ensures c.in_ok-edit_at.ensures.ok order
