use Rattle.std.proofs.Common.{refl}
use Rattle.fp_model.proofs.ProgramLemmas.{run_roll}
use Rattle.fp_model.specs.Asking.{ask}
use Rattle.fp_rows.proofs.calls.keys_are_fitted.Goals as goal

pub returns-clause-padded : goal.returns-clause-padded
returns-clause-padded c = refl

pub returns-clause-too_long : goal.returns-clause-too_long
returns-clause-too_long c = refl

pub returns-clause-sequential : goal.returns-clause-sequential
unfolding ask
returns-clause-sequential c = simp (run_roll) refl
