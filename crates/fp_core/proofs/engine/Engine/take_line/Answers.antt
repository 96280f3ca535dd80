use Rattle.std.proofs.Common.{◌∙◌, ap, subst, sym}
use Rattle.fp_model.specs.History.{Refuses}
use Rattle.fp_core.specs.declared.asking.Demand.TheVariants as demand
use Rattle.fp_core.specs.inside.Reading.{IsDemandIn, request_for}
use Rattle.fp_core.proofs.Readings.{takeable_in, taken, taken_held}
use Rattle.fp_core.proofs.engine.Engine.take_line.Goals as goal

pub returns-then-must_wait-clause-taken : goal.returns-then-must_wait-clause-taken
returns-then-must_wait-clause-taken g c m s =
    taken_held c.args.self.now m s c.args.line (sym c.must_wait.ensures ∙ c.if-must_wait.true) c.requires.short

pub returns-in_ok-refuse_line-in-Nothing-clause-taken : goal.returns-in_ok-refuse_line-in-Nothing-clause-taken
returns-in_ok-refuse_line-in-Nothing-clause-taken g c m s =
    taken c.args.self.now m s c.args.line c.refuse_line.new.self (Refuses c.in-Nothing.outcome)
    (sym c.must_wait.ensures ∙ c.if-must_wait.false)
    (c.in_ok-message.ensures.request m.history s.format s.lasts ∙ ap request_for c.in-Nothing.is)
    (c.in_ok-refuse_line-in-Nothing.ensures.refused m s)

pub queue-requires-clause-takeable : goal.queue-requires-clause-takeable
queue-requires-clause-takeable g c =
    let engine = c.args.self.now in
    let scripts = engine.scripts.now.scripts in
    let is : IsDemandIn engine.format scripts c.args.line (demand.Message c.in-Message.message) =
    subst (IsDemandIn engine.format scripts c.args.line) c.in-Message.is c.in_ok-message.ensures.is in
    takeable_in engine.format scripts c.args.line c.in-Message.message c.requires.short is
