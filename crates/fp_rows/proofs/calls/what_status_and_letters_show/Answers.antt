use Rattle.std.proofs.Common.{refl}
use Rattle.std.specs.Fmt.{digits}
use Rattle.fp_model.proofs.ProgramLemmas.{run_roll}
use Rattle.fp_model.specs.Spellings.{be16}
use Rattle.fp_model.specs.Asking.{ask}
use Rattle.fp_rows.proofs.calls.what_status_and_letters_show.Goals as goal

pub returns-clause-before : goal.returns-clause-before
unfolding ask be16 digits
returns-clause-before c = simp (run_roll) refl

pub returns-clause-behind : goal.returns-clause-behind
unfolding ask be16 digits
returns-clause-behind c = simp (run_roll) refl

pub returns-clause-none : goal.returns-clause-none
unfolding ask be16 digits
returns-clause-none c = simp (run_roll) refl
