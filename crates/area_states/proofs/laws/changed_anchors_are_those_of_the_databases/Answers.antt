use Rattle.area_states.proofs.DbLemmas.{all_changed}
use Rattle.area_states.proofs.laws.changed_anchors_are_those_of_the_databases.Goals as goal

pub returns : goal.returns
returns c = all_changed
