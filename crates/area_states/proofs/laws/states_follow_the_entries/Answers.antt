use Rattle.area_states.proofs.Behind.{newest_for}
use Rattle.area_states.proofs.laws.states_follow_the_entries.Goals as goal

pub returns-clause-newest : goal.returns-clause-newest
returns-clause-newest c = newest_for
