use Rattle.std.proofs.Common.{◌≡◌, ◌∙◌, refl, sym}
use Rattle.fp_model.specs.Order.{Replaces}
use Rattle.key_order.proofs.Ascending.{not_both}
use Rattle.dli_tree.proofs.Editing.{edit_answer, lead_answer}
use Rattle.dli_tree.proofs.calls.replace.Goals as goal

pub returns-then-not-leads_to-clause-there : goal.returns-then-not-leads_to-clause-there
returns-then-not-leads_to-clause-there c order =
    let lead = lead_answer c.args.segments.now c.as_slice-segments.result.now c.args.roots.now c.as_slice.result.now
    c.args.path.now.steps c.as_slice-steps.result.now c.leads_to.result c.as_slice-segments.ensures
    c.as_slice.ensures c.as_slice-steps.ensures c.leads_to.ensures order in
    sym c.if-not-leads_to.true ∙ lead

pub returns-in-Ok-clause-there : goal.returns-in-Ok-clause-there
returns-in-Ok-clause-there c order =
    let lead = lead_answer c.args.segments.now c.as_slice-segments.result.now c.args.roots.now c.as_slice.result.now
    c.args.path.now.steps c.as_slice-steps.result.now c.leads_to.result c.as_slice-segments.ensures
    c.as_slice.ensures c.as_slice-steps.ensures c.leads_to.ensures order in
    sym c.if-not-leads_to.false ∙ lead

pub returns-in-Ok-clause-ok : goal.returns-in-Ok-clause-ok
returns-in-Ok-clause-ok c order is =
    edit_answer c.args.segments.now c.as_slice-segments.result.now c.args.roots.now c.edit_at.new.roots
    c.args.path.now.steps c.as_slice-steps.result.now (Replaces c.args.bytes) c.as_slice-segments.ensures
    c.as_slice-steps.ensures c.in-Ok.ensures.ok order

pub returns-in-Err-clause-there : goal.returns-in-Err-clause-there
returns-in-Err-clause-there c order = absurd (not_both (sym (c.in-Err.ensures.memory refl)))
