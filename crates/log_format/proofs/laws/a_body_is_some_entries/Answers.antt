use Rattle.log_format.proofs.GroupLaws.{some_body, body_spells}
use Rattle.log_format.proofs.laws.a_body_is_some_entries.Goals as goal

pub returns : goal.returns
returns c = record { made = some_body; spelled = body_spells }
