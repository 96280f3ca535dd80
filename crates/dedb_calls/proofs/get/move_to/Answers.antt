use Rattle.std.proofs.Common.{◌∙◌, Option, Some, sym, ap}
use Rattle.fp_model.specs.Order.{Place}
use Rattle.fp_model.specs.Workspace.{DedbPosition}
use Rattle.dedb_calls.specs.Progress.{position_in}
use Rattle.dedb_calls.specs.inside.Progress.{with_position_at}
use Rattle.dedb_calls.proofs.get.move_to.Goals as goal

pub returns-then-leaves_parent-clause-work : goal.returns-then-leaves_parent-clause-work
returns-then-leaves_parent-clause-work c def =
    c.move_to.ensures ∙ ap (λ (o : Option Place). with_position_at c.args.number
    (let p : DedbPosition = record { place = Some c.args.place; parent = o; held = c.args.asked.hold } in p)
    c.args.work.now)
    (sym (c.if-leaves_parent.ensures def c.args.number (position_in c.args.work.now c.args.number).parent
    c.args.place))

pub returns-clause-work : goal.returns-clause-work
returns-clause-work c def =
    c.move_below.ensures ∙ ap (λ (o : Option Place). with_position_at c.args.number
    (let p : DedbPosition = record { place = Some c.args.place; parent = o; held = c.args.asked.hold } in p)
    c.args.work.now)
    (ap (λ (p : Place). Some p) c.in_ok-parent.ensures
    ∙ sym (c.if-leaves_parent.ensures def c.args.number (position_in c.args.work.now c.args.number).parent
    c.args.place))
