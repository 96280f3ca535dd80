use Rattle.fp_audit.proofs.LegalLemmas.{found_never}
use Rattle.fp_audit.proofs.laws.no_serial_history_has_an_illegal_entry.Goals as goal

pub returns : goal.returns
returns c = found_never
