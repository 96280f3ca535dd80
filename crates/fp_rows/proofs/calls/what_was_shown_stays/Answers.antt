use Rattle.std.proofs.Common.{refl}
use Rattle.std.specs.Fmt.{digits}
use Rattle.fp_model.proofs.ProgramLemmas.{run_roll}
use Rattle.fp_model.specs.Spellings.{be16}
use Rattle.fp_model.specs.Asking.{ask}
use Rattle.fp_rows.proofs.calls.what_was_shown_stays.Goals as goal

pub returns-clause-field : goal.returns-clause-field
unfolding ask be16 digits
returns-clause-field c = simp (run_roll) refl

pub returns-clause-other_database : goal.returns-clause-other_database
unfolding ask be16 digits
returns-clause-other_database c = simp (run_roll) refl

pub returns-clause-own_database : goal.returns-clause-own_database
unfolding ask be16 digits
returns-clause-own_database c = simp (run_roll) refl

pub returns-clause-no_such_field : goal.returns-clause-no_such_field
unfolding ask be16 digits
returns-clause-no_such_field c = simp (run_roll) refl
