use Rattle.fp_audit.proofs.LegalLemmas.{found_more, found_none, found_serial}
use Rattle.fp_audit.proofs.laws.entries_found_legal_are_a_serial_history.Goals as goal

pub returns : goal.returns
returns c = record { none = found_none; more = found_more; serial = found_serial }
