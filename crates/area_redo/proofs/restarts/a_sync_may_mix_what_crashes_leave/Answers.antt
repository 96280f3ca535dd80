use Rattle.area_redo.proofs.Areas.{settled_redone}
use Rattle.area_redo.proofs.restarts.a_sync_may_mix_what_crashes_leave.Goals as goal

pub returns : goal.returns
returns g c = record {
  redone = λ layout items bytes set image law begin redoes settles.
      settled_redone layout items bytes set _ image law begin redoes settles;
}
