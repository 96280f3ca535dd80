use Rattle.std.proofs.Common.{refl}
use Rattle.std.specs.Fmt.{digits}
use Rattle.fp_model.proofs.ProgramLemmas.{run_roll}
use Rattle.fp_model.specs.Spellings.{be16}
use Rattle.fp_model.specs.Asking.{ask}
use Rattle.fp_rows.proofs.calls.replies_are_short_and_printable.Goals as goal

pub returns-clause-longest : goal.returns-clause-longest
unfolding ask be16 digits
returns-clause-longest c = simp (run_roll) refl

pub returns-clause-too_long : goal.returns-clause-too_long
unfolding ask be16 digits
returns-clause-too_long c = simp (run_roll) refl

pub returns-clause-not_printable : goal.returns-clause-not_printable
unfolding ask be16 digits
returns-clause-not_printable c = simp (run_roll) refl

pub returns-clause-without : goal.returns-clause-without
unfolding ask be16 digits
returns-clause-without c = simp (run_roll) refl
