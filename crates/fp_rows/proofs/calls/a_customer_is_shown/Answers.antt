use Rattle.std.proofs.Common.{refl}
use Rattle.std.specs.Fmt.{digits}
use Rattle.fp_model.proofs.ProgramLemmas.{run_roll}
use Rattle.fp_model.specs.Spellings.{be16}
use Rattle.fp_model.specs.Asking.{ask}
use Rattle.fp_rows.proofs.calls.a_customer_is_shown.Goals as goal

pub returns-clause-asks_again : goal.returns-clause-asks_again
unfolding ask be16 digits
returns-clause-asks_again c = simp (run_roll) refl

pub returns-clause-replies : goal.returns-clause-replies
unfolding ask be16 digits
returns-clause-replies c = simp (run_roll) refl

pub returns-clause-absent : goal.returns-clause-absent
unfolding ask be16 digits
returns-clause-absent c = simp (run_roll) refl
