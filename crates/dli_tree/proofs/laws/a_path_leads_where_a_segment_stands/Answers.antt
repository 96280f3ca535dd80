use Rattle.dli_tree.proofs.Leading.{leads_is}
use Rattle.dli_tree.proofs.laws.a_path_leads_where_a_segment_stands.Goals as goal

pub returns : goal.returns
returns c = leads_is
