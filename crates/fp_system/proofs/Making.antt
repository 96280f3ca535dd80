-- What making a site anew says of a job.
use Rattle.std.proofs.Common.{◌≡◌, ◌⊎◌, ◌++◌, ap, inl, inr, refl, subst, ℕ, [], drop}
use Rattle.std.specs.Prelude.{◌+◌, Err, IsErrOf, Ok, OnOk, Result}
use Rattle.fp_model.specs.LogText.{Front, first_gate, log_text}
use Rattle.fp_restart.specs.declared.fault.RestartFault.{RestartFault}
use Rattle.fp_restart.specs.declared.fault.RestartFault.TheVariants as fault
use Rattle.fp_site.specs.Disk.{Disk}
use Rattle.fp_site.specs.Moments.{OnlyOn, Through}
use Rattle.log_groups.specs.Images.{IsAtRest, IsBeforeOrMade, as_front}
use Rattle.command_tasks.specs.Answers.{MayStandIn}
use Rattle.command_tasks.specs.declared.parts.Setup.{Setup}
use Rattle.command_tasks.specs.declared.status.Status.TheVariants.{Done}
use Rattle.fp_system.specs.inside.Acted.{Made}
use Rattle.fp_system.specs.inside.Answers.{answer_of}
use Rattle.command_tasks.specs.Setups.{IsSetup, job_of}
use Rattle.fp_system.proofs.Due.{fault_not_done, fault_stands}

-- it is done, or a fault stands in the place of that
pub made_due : (r : Result (Unit {0}) RestartFault)
    → (IsErrOf r fault.Foreign → ⊥) × ((set at : ℕ) → IsErrOf r (fault.Damaged set at) → ⊥)
    → (answer_of r ≡ Done) ⊎ MayStandIn (answer_of r)
made_due (Ok x) never = inl refl
made_due (Err why) never =
    inr (fault_stands why (λ e. never.0 (ap (λ f. Err f) e)) (λ set at e. never.1 set at (ap (λ f. Err f) e)))

-- the new log is the job's
pub made_for : (setup : Setup) → IsSetup setup → (old new : Disk) (r : Result (Unit {0}) RestartFault)
    → OnOk r (IsAtRest new (as_front setup.front) [] (first_gate (as_front setup.front)))
    → OnOk r (new.contents 0 ≡ log_text (as_front setup.front) []
    ++ drop (first_gate (as_front setup.front) + 1) (old.contents 0))
    → OnlyOn 0 old new → Through old new (IsBeforeOrMade old (as_front setup.front))
    → Made (job_of setup) (answer_of r) old new
made_for setup is old new (Ok x) made text only crash = record {
  only = only;
  made = λ done. subst (λ (f : Front). IsAtRest new f [] (first_gate f)) is.front made;
  text = λ done.
      subst (λ (f : Front). new.contents 0 ≡ log_text f [] ++ drop (first_gate f + 1) (old.contents 0)) is.front text;
  crash = subst (λ (f : Front). Through old new (IsBeforeOrMade old f)) is.front crash;
}
made_for setup is old new (Err why) made text only crash = record {
  only = only;
  made = λ done. fault_not_done why done;
  text = λ done. fault_not_done why done;
  crash = subst (λ (f : Front). Through old new (IsBeforeOrMade old f)) is.front crash;
}
