use Rattle.past_segments.proofs.PastLaws.{settled}
use Rattle.past_segments.proofs.laws.what_is_not_late_is_settled.Goals as goal

pub returns : goal.returns
returns c past place never = settled past place never
