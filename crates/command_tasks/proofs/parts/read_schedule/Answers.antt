use Rattle.std.proofs.Common.{◌≡◌, inr, refl, ap}
use Rattle.std.specs.Prelude.{Err}
use Rattle.fp_schedule.specs.declared.fault.ScheduleFault.TheVariants as unfit
use Rattle.fp_source.specs.declared.part.Part.TheVariants as part
use Rattle.fp_source.specs.declared.whole_part.WholeFault.TheVariants as fault
use Rattle.command_tasks.proofs.Jobs.{long_schedule}
use Rattle.command_tasks.proofs.parts.read_schedule.Goals as goal

pub returns-in-Err-TooLong-clause-refused : goal.returns-in-Err-TooLong-clause-refused
returns-in-Err-TooLong-clause-refused g c t =
    let is : c.in-Err-TooLong.field-0 ≡ fault.TooLong = cc in
    inr (
      unfit.TooLong,
      refl,
      long_schedule c.args.defs.now (g.S.Source.left c.args.source.now part.Schedule)
          (c.in-Err-TooLong.ensures.too_long t (ap (λ x. Err x) is)),
    )
