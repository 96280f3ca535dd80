use Rattle.area_redo.proofs.Steps.{wrote_not}
use Rattle.area_redo.proofs.Moments.{opening_failed}
use Rattle.area_redo.proofs.run_steps.a_failed_write_is_still_owed.Goals as goal

pub returns : goal.returns
returns g c = record {
  stands = λ layout way owed bytes set ci stands may call broken.
      wrote_not layout way owed bytes set ci may.due _ _ stands may.is_owed may.is_sealed call.lawful_before
      call.lawful_after call.crash call.leaves broken;
  opening = λ layout way owed bytes set ci stands opening may call.
      opening_failed layout way owed bytes _ _ stands opening set ci may call;
}
