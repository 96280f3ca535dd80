use Rattle.past_segments.proofs.PastLaws.{shows_on}
use Rattle.past_segments.proofs.laws.a_settled_database_stays.Goals as goal

pub returns : goal.returns
returns c past p q all le = shows_on past p q all le
