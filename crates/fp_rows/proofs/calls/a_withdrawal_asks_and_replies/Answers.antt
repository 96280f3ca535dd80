use Rattle.std.proofs.Common.{refl}
use Rattle.std.specs.Fmt.{digits}
use Rattle.fp_model.proofs.ProgramLemmas.{run_roll}
use Rattle.fp_model.specs.Spellings.{be16}
use Rattle.fp_model.specs.Asking.{ask}
use Rattle.fp_rows.proofs.calls.a_withdrawal_asks_and_replies.Goals as goal

pub returns-clause-asks : goal.returns-clause-asks
unfolding ask be16 digits
returns-clause-asks c = simp (run_roll) refl

pub returns-clause-refused : goal.returns-clause-refused
unfolding ask be16 digits
returns-clause-refused c = simp (run_roll) refl

pub returns-clause-paid : goal.returns-clause-paid
unfolding ask be16 digits
returns-clause-paid c = simp (run_roll) refl
