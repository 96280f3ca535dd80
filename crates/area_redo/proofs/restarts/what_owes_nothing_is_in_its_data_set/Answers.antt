use Rattle.area_redo.proofs.Finding.{written_out}
use Rattle.area_redo.proofs.restarts.what_owes_nothing_is_in_its_data_set.Goals as goal

pub returns : goal.returns
returns g c = record {
  written = λ layout way owed bytes set ci any law stands none named below.
      written_out layout way owed bytes _ set ci any law stands none named below;
}
