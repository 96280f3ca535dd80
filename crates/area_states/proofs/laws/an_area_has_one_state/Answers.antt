use Rattle.area_states.proofs.StateLemmas.{has_one_state}
use Rattle.area_states.proofs.laws.an_area_has_one_state.Goals as goal

pub returns : goal.returns
returns c = has_one_state
