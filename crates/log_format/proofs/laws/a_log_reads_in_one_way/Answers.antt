use Rattle.log_format.proofs.GroupLaws.{one_reading}
use Rattle.log_format.proofs.laws.a_log_reads_in_one_way.Goals as goal

pub returns : goal.returns
returns c = one_reading
