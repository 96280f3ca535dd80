use Rattle.log_format.proofs.GroupLaws.{one_group}
use Rattle.log_format.proofs.laws.no_group_begins_another.Goals as goal

pub returns : goal.returns
returns c = one_group
