use Rattle.dedb_area.proofs.Fitting.{fit_images}
use Rattle.dedb_area.proofs.applying.items_that_fit_may_be_applied.Goals as goal

pub returns : goal.returns
returns c = fit_images
