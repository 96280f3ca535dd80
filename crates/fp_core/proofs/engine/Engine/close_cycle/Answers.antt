use Rattle.std.proofs.Common.{◌∙◌, ap, subst, arith, ◌≤◌, ◌<◌}
use Rattle.fp_model.specs.declared.calls.Message.{Message}
use Rattle.fp_model.specs.declared.log.Entry.{Entry}
use Rattle.fp_model.specs.declared.log.Outcome.TheVariants as outcome
use Rattle.fp_model.specs.Machine.{ended_with}
use Rattle.fp_core.specs.declared.engine.Region.TheVariants as regions
use Rattle.fp_core.specs.Relation.{StandsFor}
use Rattle.fp_core.proofs.Ends.{bare_is, region_is}
use Rattle.fp_core.proofs.Refusals.{cycle_refused, cycle_tried}
use Rattle.fp_core.proofs.engine.Engine.close_cycle.Goals as goal

pub try_again-requires-clause-left : goal.try_again-requires-clause-left
try_again-requires-clause-left c m t u =
    let is = region_is c.args.self.now m c.args.region t (regions.Active c.active_in-active.result.now) u
    c.active_in-active.ensures.there in
    omega (arith, is.tries, c.if-active-self.true)

pub cycle_entry-requires-clause-few : goal.cycle_entry-requires-clause-few
cycle_entry-requires-clause-few c =
    let h = c.requires.closed.1.1 in
    omega (arith, h.short, h.may_end.stands.setup.defined.regions.1)

pub returns-then-active-self-clause-turned : goal.returns-then-active-self-clause-turned
returns-then-active-self-clause-turned c m t h =
    let engine = c.args.self.now in
    let is = region_is engine m c.args.region t (regions.Active c.active_in-active.result.now) h.may_end
    c.active_in-active.ensures.there in
    let left : t.tries < engine.defs.now.tries = omega (arith, is.tries, c.if-active-self.true) in
    cycle_tried engine c.try_again.new.self m c.args.region t c.try_again.ensures.rules c.args.cycle h left
    (c.in_ok-try_again.ensures.again m t h.may_end)

pub returns-clause-turned : goal.returns-clause-turned
returns-clause-turned c m t h =
    let engine = c.args.self.now in
    let active = c.active_in-active.result.now in
    let is = region_is engine m c.args.region t (regions.Active active) h.may_end c.active_in-active.ensures.there in
    let used : engine.defs.now.tries ≤ t.tries = omega (arith, is.tries, c.if-active-self.false) in
    let entry = c.in_ok-entry.ensures.entry ∙ bare_is engine.defs.now engine.scripts.now.scripts active t
    (outcome.Deadlock c.args.cycle) m.history.now is in
    cycle_refused engine c.refuse.new.self m c.args.region t c.refuse.ensures.rules c.args.cycle h used
    (subst (λ (x : Entry). StandsFor c.refuse.new.self (ended_with c.args.region x m.history.now m)) entry
    (c.in_ok-refuse.ensures.ended m t h.may_end))

pub refuse-requires-clause-line : goal.refuse-requires-clause-line
refuse-requires-clause-line c m t u =
    let engine = c.args.self.now in
    let is = region_is engine m c.args.region t (regions.Active c.active_in-active.result.now) u
    c.active_in-active.ensures.there in
    ap (λ (e : Entry). e.line) c.in_ok-entry.ensures.entry ∙ ap (λ (x : Message). x.line) is.message
