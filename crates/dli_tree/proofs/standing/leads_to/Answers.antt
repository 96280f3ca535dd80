use Rattle.std.proofs.Common.{◌∙◌, ◌<◌, length, refl, sym, drop}
use Rattle.std.proofs.lemmas.List.{take_rest}
use Rattle.fp_model.specs.Order.{root_key}
use Rattle.dli_tree.specs.declared.place.Place.TheVariants.{Lacks, Stands}
use Rattle.dli_tree.proofs.Editing.{find_lacks, find_stands, leads_answer, no_steps_lead, placed_in, root_leads, root_none_leads}
use Rattle.dli_tree.proofs.Roots.{root_shape, roots_ascend, shaped}
use Rattle.dli_tree.proofs.standing.leads_to.Goals as goal
use Rattle.plain_laws.proofs.Places.{stands_at}

pub returns-then-is_empty : goal.returns-then-is_empty
returns-then-is_empty c order = no_steps_lead c.args.segments.now c.args.roots.now c.args.steps.now
    (sym c.is_empty.ensures ∙ c.if-is_empty.true)

pub returns-in-Lacks : goal.returns-in-Lacks
returns-in-Lacks c order =
    let types = c.args.segments.now in
    let roots = c.args.roots.now in
    let s = c.index-steps-0.result in
    let up = roots_ascend types roots order in
    let place = placed_in (root_key types) s.key c.as_slice.result.now roots roots (Lacks c.in-Lacks.field-0) refl
    c.as_slice.ensures c.in-Lacks.ensures.place up in
    root_none_leads types roots c.args.steps.now s (sym c.is_empty.ensures ∙ c.if-is_empty.false) c.index-steps-0.is
    (find_lacks (root_key types) s.key roots c.in-Lacks.field-0 up place)

pub returns-in-Stands : goal.returns-in-Stands
returns-in-Stands c order =
    let types = c.args.segments.now in
    let roots = c.args.roots.now in
    let s = c.index-steps-0.result in
    let at = c.in-Stands.at in
    let r = c.index-roots-at.result in
    let up = roots_ascend types roots order in
    let lt : at < length roots = c.in-Stands.ensures.within in
    let place = placed_in (root_key types) s.key c.as_slice.result.now roots roots (Stands at) refl c.as_slice.ensures
    c.in-Stands.ensures.place up in
    root_leads types roots c.args.steps.now s (sym c.is_empty.ensures ∙ c.if-is_empty.false) c.index-steps-0.is r
    c.leads_below.result (find_stands (root_key types) s.key roots at r up place
    (stands_at roots at r lt c.index-roots-at.is))
    (leads_answer types 0 (drop 1 c.args.steps.now) _ r.children c.as_slice-in-Stands.result.now c.leads_below.result
    (take_rest c.args.steps.now 1) c.as_slice-in-Stands.ensures c.leads_below.ensures
    (shaped types r (root_shape types roots at r order lt c.index-roots-at.is)).rows)
