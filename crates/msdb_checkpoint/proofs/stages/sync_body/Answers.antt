use Rattle.std.proofs.Common.{ap, arith, length}
use Rattle.fp_site.proofs.Runs.{weaker}
use Rattle.msdb_checkpoint.proofs.StageLemmas.{unopened_is, whole_body}
use Rattle.msdb_checkpoint.proofs.stages.sync_body.Goals as goal

pub returns-in_err-finish-clause-crash : goal.returns-in_err-finish-clause-crash
returns-in_err-finish-clause-crash g c t at = weaker _ _ _ _
    (λ s un. unopened_is _ c.args.set c.args.body.now at.0 (s.images c.args.set) at.1 un)
    (c.finish.ensures.crash at.0 0 t at.3.each)

pub returns-in_err-finish-clause-settles : goal.returns-in_err-finish-clause-settles
returns-in_err-finish-clause-settles g c image t at settles = unopened_is _ c.args.set c.args.body.now at.0 image at.1
    (c.finish.ensures.settles at.0 0 t at.3.each image settles)

pub returns-clause-next : goal.returns-clause-next
returns-clause-next g c t at = (
  at.0,
  at.1,
  c.in_ok-finish.ensures.ready at.0 0 c.args.body.now t
      (whole_body at.0 c.args.body.now c.args.set _ c.args.count c.requires.all at.3),
)

pub returns-clause-crash : goal.returns-clause-crash
returns-clause-crash g c t at = weaker _ _ _ _
    (λ s un. unopened_is _ c.args.set c.args.body.now at.0 (s.images c.args.set) at.1 un)
    (c.finish.ensures.crash at.0 0 t at.3.each)

pub returns-clause-settles : goal.returns-clause-settles
returns-clause-settles g c image t at settles = unopened_is _ c.args.set c.args.body.now at.0 image at.1
    (c.finish.ensures.settles at.0 0 t at.3.each image settles)

pub returns-clause-no_longer : goal.returns-clause-no_longer
returns-clause-no_longer g c t = omega (arith, ap length (c.finish.ensures.same t))
