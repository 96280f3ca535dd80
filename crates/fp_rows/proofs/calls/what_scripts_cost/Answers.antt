use Rattle.std.proofs.Common.{refl}
use Rattle.fp_model.proofs.ProgramLemmas.{statement_cost_roll}
use Rattle.fp_rows.proofs.calls.what_scripts_cost.Goals as goal

pub returns-clause-straight : goal.returns-clause-straight
returns-clause-straight c = simp (statement_cost_roll) refl

pub returns-clause-loop_of_ten : goal.returns-clause-loop_of_ten
returns-clause-loop_of_ten c = simp (statement_cost_roll) refl

pub returns-clause-loop_of_thirty : goal.returns-clause-loop_of_thirty
returns-clause-loop_of_thirty c = simp (statement_cost_roll) refl
