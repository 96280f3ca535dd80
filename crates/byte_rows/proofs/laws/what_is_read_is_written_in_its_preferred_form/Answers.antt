use Rattle.byte_rows.proofs.WritesAgain.{writes_again}
use Rattle.byte_rows.proofs.laws.what_is_read_is_written_in_its_preferred_form.Goals as goal

pub returns : goal.returns
returns c = writes_again
