use Rattle.fp_model.proofs.HistoryLemmas.{one_end, states_counted, entries_put, format_stays}
use Rattle.fp_model.proofs.laws.entries_determine_states.Goals as goal

pub returns : goal.returns
returns c = record { last = one_end; count = states_counted; entries = entries_put; format = format_stays }
