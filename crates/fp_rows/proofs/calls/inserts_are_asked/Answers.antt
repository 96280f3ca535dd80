use Rattle.std.proofs.Common.{refl}
use Rattle.std.specs.Fmt.{digits}
use Rattle.fp_model.proofs.ProgramLemmas.{run_roll}
use Rattle.fp_model.specs.Spellings.{be16}
use Rattle.fp_model.specs.Asking.{ask}
use Rattle.fp_rows.proofs.calls.inserts_are_asked.Goals as goal

pub returns-clause-root : goal.returns-clause-root
unfolding ask be16 digits
returns-clause-root c = simp (run_roll) refl

pub returns-clause-sequential : goal.returns-clause-sequential
unfolding ask be16 digits
returns-clause-sequential c = simp (run_roll) refl

pub returns-clause-direct : goal.returns-clause-direct
unfolding ask be16 digits
returns-clause-direct c = simp (run_roll) refl

pub returns-clause-lent : goal.returns-clause-lent
unfolding ask be16 digits
returns-clause-lent c = simp (run_roll) refl
