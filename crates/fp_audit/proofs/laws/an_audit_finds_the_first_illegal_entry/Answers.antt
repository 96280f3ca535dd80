use Rattle.fp_audit.proofs.LegalLemmas.{all_legal, first_illegal}
use Rattle.fp_audit.proofs.laws.an_audit_finds_the_first_illegal_entry.Goals as goal

pub returns : goal.returns
returns c = record { legal = all_legal; illegal = first_illegal }
