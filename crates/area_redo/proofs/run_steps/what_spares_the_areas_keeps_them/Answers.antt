use Rattle.fp_model.specs.Items.{items_of}
use Rattle.area_redo.specs.Standing.{since_mark}
use Rattle.area_redo.proofs.Areas.{spared_through}
use Rattle.area_redo.proofs.Opening.{spared, may_spared}
use Rattle.area_redo.proofs.run_steps.what_spares_the_areas_keeps_them.Goals as goal

pub returns : goal.returns
returns g c = record {
  stands = λ layout way owed bytes stands spares. spared layout way owed bytes _ _ stands spares;
  moments = λ layout way owed bytes stands spares.
      spared_through layout (items_of way.tail) bytes _ _ spares stands.redoes;
  opening = λ layout way owed bytes opening spares. may_spared layout way owed bytes _ _ opening spares;
  opening_moments = λ layout way owed bytes opening spares.
      spared_through layout (items_of (since_mark way)) bytes _ _ spares opening.redoes;
}
