use Rattle.area_redo.proofs.Steps.{wrote}
use Rattle.area_redo.proofs.Moments.{opening_written}
use Rattle.area_redo.proofs.run_steps.a_written_interval_owes_nothing.Goals as goal

pub returns : goal.returns
returns g c = record {
  stands = λ layout way owed bytes set ci newest stands may call some long are_newest whole.
      wrote layout way owed bytes set ci may.due newest _ _ stands may.is_owed may.is_sealed some long are_newest
      call.lawful_before call.lawful_after call.crash call.leaves whole;
  opening = λ layout way owed bytes set ci stands opening may call.
      opening_written layout way owed bytes _ _ stands opening set ci may call;
}
