use Rattle.packed_dec.proofs.ReadsBack.{reads_back}
use Rattle.byte_rows.proofs.laws.what_is_written_reads_back.Goals as goal

pub returns : goal.returns
returns c = reads_back
