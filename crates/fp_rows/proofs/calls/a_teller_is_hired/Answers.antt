use Rattle.std.proofs.Common.{refl}
use Rattle.std.specs.Fmt.{digits}
use Rattle.fp_model.proofs.ProgramLemmas.{run_roll}
use Rattle.fp_model.specs.Spellings.{be16}
use Rattle.fp_model.specs.Asking.{ask}
use Rattle.fp_rows.proofs.calls.a_teller_is_hired.Goals as goal

pub returns-clause-asks : goal.returns-clause-asks
unfolding ask be16 digits
returns-clause-asks c = simp (run_roll) refl

pub returns-clause-new : goal.returns-clause-new
unfolding ask be16 digits
returns-clause-new c = simp (run_roll) refl

pub returns-clause-standing : goal.returns-clause-standing
unfolding ask be16 digits
returns-clause-standing c = simp (run_roll) refl
