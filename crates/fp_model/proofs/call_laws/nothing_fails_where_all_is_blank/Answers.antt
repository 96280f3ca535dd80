use Rattle.fp_model.proofs.FsaLemmas.{failure_or_blank}
use Rattle.fp_model.proofs.call_laws.nothing_fails_where_all_is_blank.Goals as goal

pub returns : goal.returns
returns c = failure_or_blank
