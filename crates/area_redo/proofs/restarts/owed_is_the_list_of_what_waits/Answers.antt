use Rattle.area_redo.proofs.Waits.{owed_from, owed_more, owed_less}
use Rattle.area_redo.proofs.restarts.owed_is_the_list_of_what_waits.Goals as goal

pub returns : goal.returns
returns c = record {
  begins = owed_from;
  entries = λ place entries waiting set ci. owed_more entries place waiting set ci;
  written = owed_less;
}
