use Rattle.fp_rows.proofs.NumberTurns.{first_run, second_run}
use Rattle.fp_rows.proofs.numbered.numbered_lines_by_turns.Goals as goal

pub returns-clause-first_run : goal.returns-clause-first_run
returns-clause-first_run c = first_run

pub returns-clause-second_run : goal.returns-clause-second_run
returns-clause-second_run c = second_run
