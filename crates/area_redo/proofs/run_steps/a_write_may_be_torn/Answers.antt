use Rattle.area_redo.proofs.Moments.{write_moments, opening_write_moments}
use Rattle.area_redo.proofs.run_steps.a_write_may_be_torn.Goals as goal

pub returns : goal.returns
returns g c = record {
  moments = λ layout way owed bytes set ci stands may call.
      write_moments layout way owed bytes _ _ stands set ci may call;
  opening = λ layout way owed bytes set ci stands opening may call.
      opening_write_moments layout way owed bytes _ _ stands opening set ci may call;
}
