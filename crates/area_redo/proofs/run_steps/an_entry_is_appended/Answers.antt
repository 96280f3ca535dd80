use Rattle.area_redo.proofs.Steps.{published}
use Rattle.area_redo.proofs.Opening.{may_published}
use Rattle.area_redo.proofs.run_steps.an_entry_is_appended.Goals as goal

pub returns : goal.returns
returns g c = record {
  stands = λ layout way owed bytes e stands begins grows. published layout way owed bytes e _ stands begins grows;
  opening = λ layout way owed bytes e stands opening. may_published layout way owed bytes e _ stands opening;
}
