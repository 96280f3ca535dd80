use Rattle.std.proofs.Common.{◌∙◌, ap, subst, ℕ, List}
use Rattle.fp_model.specs.declared.calls.Message.{Message}
use Rattle.fp_model.specs.declared.log.Entry.{Entry}
use Rattle.fp_model.specs.declared.log.Outcome.TheVariants as outcome
use Rattle.fp_model.specs.Machine.{ended_with}
use Rattle.fp_core.specs.declared.engine.Region.TheVariants as regions
use Rattle.fp_core.specs.inside.Ending.{refused_entry}
use Rattle.fp_core.specs.Relation.{StandsFor}
use Rattle.fp_core.proofs.Ends.{may_end, region_is}
use Rattle.fp_core.proofs.Refusals.{refused_is, rolled}
use Rattle.fp_core.proofs.engine.Engine.roll.Goals as goal

pub returns-clause-turned : goal.returns-clause-turned
returns-clause-turned c m t e =
    let engine = c.args.self.now in
    let active = c.active_in-active.result.now in
    let u = may_end engine m c.args.region t e.at_work in
    let is = region_is engine m c.args.region t (regions.Active active) u c.active_in-active.ensures.there in
    let entry = c.in_ok-entry.ensures.entry
    ∙ ap (λ (notes : List ℕ). refused_entry active (outcome.Roll c.args.code) notes) c.in_ok-notes.ensures.notes
    ∙ refused_is engine.defs.now engine.scripts.now.scripts active t (outcome.Roll c.args.code) m.history.now is in
    rolled engine c.refuse.new.self m c.args.region t c.refuse.ensures.rules c.args.code e
    (subst (λ (x : Entry). StandsFor c.refuse.new.self (ended_with c.args.region x m.history.now m)) entry
    (c.in_ok-refuse.ensures.ended m t u))

pub refuse-requires-clause-line : goal.refuse-requires-clause-line
refuse-requires-clause-line c m t u =
    let engine = c.args.self.now in
    let is = region_is engine m c.args.region t (regions.Active c.active_in-active.result.now) u
    c.active_in-active.ensures.there in
    ap (λ (e : Entry). e.line) c.in_ok-entry.ensures.entry ∙ ap (λ (x : Message). x.line) is.message
