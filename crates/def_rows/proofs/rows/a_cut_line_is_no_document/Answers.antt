use Rattle.std.proofs.Common.{refl}
use Rattle.def_rows.proofs.OnLiterals.{on_literals}
use Rattle.def_rows.proofs.rows.a_cut_line_is_no_document.Goals as goal

pub returns : goal.returns
unfolding on_literals
returns c = refl
