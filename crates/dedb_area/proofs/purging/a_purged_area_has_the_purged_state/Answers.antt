use Rattle.dedb_area.proofs.Purges.{purged_here}
use Rattle.dedb_area.proofs.purging.a_purged_area_has_the_purged_state.Goals as goal

pub returns : goal.returns
returns c = λ place bytes control n state fine has is. purged_here place bytes control n is state fine has
