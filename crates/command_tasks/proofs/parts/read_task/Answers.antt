use Rattle.std.proofs.Common.{◌≡◌}
use Rattle.std.proofs.lemmas.Result.{err_from_is_err_and}
use Rattle.fp_exits.specs.Kinds.{kinds_of}
use Rattle.fp_source.specs.declared.part.Part.TheVariants as part
use Rattle.command_tasks.specs.Setups.{job_of}
use Rattle.command_tasks.proofs.Jobs.{or_schedule}
use Rattle.command_tasks.proofs.parts.read_task.Goals as goal

pub returns-in_err-setup-clause-refused : goal.returns-in_err-setup-clause-refused
returns-in_err-setup-clause-refused g c t =
    let p = err_from_is_err_and c.from_residual.result c.from_residual.ensures.1 in
    rw (p.1, p.2) (c.in_err-setup.ensures.refused c.args.command t)

pub returns-in_err-events-clause-refused : goal.returns-in_err-events-clause-refused
returns-in_err-events-clause-refused g c t =
    let left = g.S.Source.left c.args.source.now in
    let left2 = g.S.Source.left c.read_setup.new.source in
    let aside = c.read_setup.ensures.others t part.Schedule (λ (e : part.Schedule ≡ part.Definitions). cc)
    (λ (e : part.Schedule ≡ part.Scripts). cc) in
    let p = err_from_is_err_and c.from_residual-in_err-events.result c.from_residual-in_err-events.ensures.1 in
    rw (p.1, p.2) (or_schedule (kinds_of c.args.exits.now) left left2 c.args.command (job_of c.in_ok-setup.setup) _
    (c.in_ok-setup.ensures.job t) aside (c.in_err-events.ensures.refused (c.read_setup.ensures.source.still_told t)))

-- where the schedule was read, definitions and scripts are a job
pub returns-in_err-events-clause-no_job : goal.returns-in_err-events-clause-no_job
returns-in_err-events-clause-no_job g c t none =
    absurd (none (job_of c.in_ok-setup.setup, c.in_ok-setup.ensures.job t))

pub returns-clause-no_job : goal.returns-clause-no_job
returns-clause-no_job g c t none = absurd (none (job_of c.in_ok-setup.setup, c.in_ok-setup.ensures.job t))
