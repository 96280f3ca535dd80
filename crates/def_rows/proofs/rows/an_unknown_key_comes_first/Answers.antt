use Rattle.std.proofs.Common.{refl}
use Rattle.def_rows.proofs.OnLiterals.{on_literals}
use Rattle.def_rows.proofs.rows.an_unknown_key_comes_first.Goals as goal

pub returns : goal.returns
unfolding on_literals
returns c = refl
