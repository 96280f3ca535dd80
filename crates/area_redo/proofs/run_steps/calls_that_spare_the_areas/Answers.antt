use Rattle.area_redo.proofs.Areas.{stays_spares, send_spares, only_on_spares, only_in_spares}
use Rattle.area_redo.proofs.run_steps.calls_that_spare_the_areas.Goals as goal

pub returns : goal.returns
returns g c = record {
  unchanged = λ layout bytes law law2 stays. stays_spares layout bytes _ _ law law2 stays;
  send = λ layout bytes text sends. send_spares layout bytes text _ _ sends;
  other_set = λ layout bytes set law law2 only none. only_on_spares layout bytes set _ _ law law2 only none;
  other_sets = λ layout bytes law law2 only. only_in_spares layout bytes _ _ law law2 only;
}
