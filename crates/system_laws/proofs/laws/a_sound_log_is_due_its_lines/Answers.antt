use Rattle.system_laws.proofs.TableLemmas.{lines_due, old_due}
use Rattle.system_laws.proofs.laws.a_sound_log_is_due_its_lines.Goals as goal

pub returns-clause-lines : goal.returns-clause-lines
returns-clause-lines c = λ g job format entries asks sound new.
    lines_due g job format entries asks sound new

pub returns-clause-first : goal.returns-clause-first
returns-clause-first c = λ g job format entries asks sound first.
    old_due g job format entries asks sound first
