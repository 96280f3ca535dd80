use Rattle.std.proofs.Common.{refl}
use Rattle.std.specs.Fmt.{digits}
use Rattle.fp_model.proofs.ProgramLemmas.{run_roll}
use Rattle.fp_model.specs.Spellings.{be16}
use Rattle.fp_model.specs.Asking.{ask}
use Rattle.fp_rows.proofs.calls.asking_shows_the_balance.Goals as goal

pub returns-clause-asks : goal.returns-clause-asks
unfolding ask be16 digits
returns-clause-asks c = simp (run_roll) refl

pub returns-clause-shows : goal.returns-clause-shows
unfolding ask be16 digits
returns-clause-shows c = simp (run_roll) refl

pub returns-clause-none : goal.returns-clause-none
unfolding ask be16 digits
returns-clause-none c = simp (run_roll) refl

pub returns-clause-no_number : goal.returns-clause-no_number
unfolding ask be16 digits
returns-clause-no_number c = simp (run_roll) refl
