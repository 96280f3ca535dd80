use Rattle.std.proofs.Common.{[], ◌∷◌, arith}
use Rattle.fp_site.proofs.Runs.{weaker}
use Rattle.msdb_checkpoint.proofs.StageLemmas.{staged_is, sure_now, written_within}
use Rattle.msdb_checkpoint.proofs.stages.open_body.Goals as goal

pub returns-in_err-open-clause-crash : goal.returns-in_err-open-clause-crash
returns-in_err-open-clause-crash g c t at = weaker _ _ _ _
    (λ s staged. staged_is _ c.args.set c.args.body.now at.0 (s.images c.args.set) staged)
    (c.open.ensures.crash at.0 c.args.body.now t at.2)

pub returns-in_err-open-clause-settles : goal.returns-in_err-open-clause-settles
returns-in_err-open-clause-settles g c image t at settles = staged_is _ c.args.set c.args.body.now at.0 image
    (c.open.ensures.settles at.0 c.args.body.now image t at.2 settles)

pub returns-clause-next : goal.returns-clause-next
returns-clause-next g c t at = sure_now at.0 c.args.body.now c.args.set _
    (c.in_ok-open.ensures.opened at.0 c.args.body.now t at.2)

pub returns-clause-crash : goal.returns-clause-crash
returns-clause-crash g c t at = weaker _ _ _ _
    (λ s staged. staged_is _ c.args.set c.args.body.now at.0 (s.images c.args.set) staged)
    (c.open.ensures.crash at.0 c.args.body.now t at.2)

pub returns-clause-settles : goal.returns-clause-settles
returns-clause-settles g c image t at settles = staged_is _ c.args.set c.args.body.now at.0 image
    (c.open.ensures.settles at.0 c.args.body.now image t at.2 settles)

pub returns-clause-no_longer : goal.returns-clause-no_longer
returns-clause-no_longer g c t =
    written_within c.args.body.now _ _ (1 ∷ []) 0 (omega arith) (c.in_ok-open.ensures.text t)
