use Rattle.std.proofs.Common.{refl}
use Rattle.std.specs.Fmt.{digits}
use Rattle.fp_model.proofs.ProgramLemmas.{run_roll}
use Rattle.fp_model.specs.Spellings.{be16}
use Rattle.fp_model.specs.Asking.{ask}
use Rattle.fp_rows.proofs.calls.a_new_balance.Goals as goal

pub returns-clause-asks : goal.returns-clause-asks
unfolding ask be16 digits
returns-clause-asks c = simp (run_roll) refl

pub returns-clause-no_number : goal.returns-clause-no_number
unfolding ask be16 digits
returns-clause-no_number c = simp (run_roll) refl

pub returns-clause-too_great : goal.returns-clause-too_great
unfolding ask be16 digits
returns-clause-too_great c = simp (run_roll) refl

pub returns-clause-not_shown : goal.returns-clause-not_shown
unfolding ask be16 digits
returns-clause-not_shown c = simp (run_roll) refl
