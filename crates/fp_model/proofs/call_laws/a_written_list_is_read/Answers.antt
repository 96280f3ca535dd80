use Rattle.fp_model.proofs.FsaLemmas.{fsas_of_list_text}
use Rattle.fp_model.proofs.call_laws.a_written_list_is_read.Goals as goal

pub returns : goal.returns
returns c = fsas_of_list_text
