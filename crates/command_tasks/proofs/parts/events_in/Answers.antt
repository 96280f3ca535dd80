use Rattle.std.proofs.Common.{sym, subst}
use Rattle.std.specs.Prelude.{◌≡◌, ◌⊎◌, Err}
use Rattle.fp_schedule.specs.Schedule.{events_of}
use Rattle.fp_schedule.specs.declared.fault.ScheduleFault.{ScheduleFault}
use Rattle.command_tasks.proofs.Jobs.{bad_is_answer}
use Rattle.command_tasks.specs.Answers.{MayStandIn}
use Rattle.command_tasks.specs.declared.status.Status.{Status}
use Rattle.command_tasks.specs.declared.status.Status.TheVariants as status
use Rattle.command_tasks.proofs.parts.events_in.Goals as goal

pub returns-in-Err-clause-refused : goal.returns-in-Err-clause-refused
returns-in-Err-clause-refused c =
    let defs = c.args.defs.now in
    let text = c.args.text.now in
    subst (λ (s : Status). MayStandIn s
    ⊎ ((f : ScheduleFault) × (s ≡ status.Schedule f) × (events_of defs text ≡ Err f)))
    (sym c.schedule_status.ensures) (bad_is_answer defs text c.in-Err.fault c.in-Err.ensures.fault)
