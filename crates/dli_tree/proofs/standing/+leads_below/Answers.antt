use Rattle.std.proofs.Common.{◌∙◌, ap, sym, drop}
use Rattle.std.specs.Option.{option_copied}
use Rattle.std.proofs.lemmas.List.{take_rest}
use Rattle.fp_model.specs.declared.database.Node.{out-Node}
use Rattle.dli_tree.proofs.Editing.{leads_answer, leads_end, leads_none, leads_on_to}
use Rattle.dli_tree.proofs.standing.+leads_below.Goals as goal

pub returns-then-is_empty : goal.returns-then-is_empty
returns-then-is_empty t c shape = leads_end c.args.segments.now c.args.parent c.args.steps.now c.args.rows.now
    (sym c.is_empty.ensures ∙ c.if-is_empty.true)

pub returns-in-None : goal.returns-in-None
returns-in-None t c shape =
    leads_none c.args.segments.now c.args.parent c.args.steps.now c.index-steps-0.result c.args.rows.now
    (sym c.is_empty.ensures ∙ c.if-is_empty.false) c.index-steps-0.is
    (option_copied c.find_twin.result) (c.find_twin.ensures.found shape) (ap option_copied c.in-None.is)

pub returns-in-Some : goal.returns-in-Some
returns-in-Some t c shape =
    let types = c.args.segments.now in
    let s = c.index-steps-0.result in
    let n = c.in-Some.twin.now in
    leads_on_to types c.args.parent c.args.steps.now s c.args.rows.now (sym c.is_empty.ensures ∙ c.if-is_empty.false)
    c.index-steps-0.is (option_copied c.find_twin.result) n c.leads_below.result (c.find_twin.ensures.found shape)
    (ap option_copied c.in-Some.is)
    (leads_answer types s.segment (drop 1 c.args.steps.now) _ (out-Node n).children c.as_slice.result.now
    c.leads_below.result (take_rest c.args.steps.now 1) c.as_slice.ensures c.leads_below.ensures
    (c.in-Some.ensures.shape shape))
