use Rattle.std.proofs.Common.{refl}
use Rattle.def_rows.proofs.OnLiterals.{on_literals}
use Rattle.def_rows.proofs.rows.the_least_missing_group_is_named.Goals as goal

pub returns : goal.returns
unfolding on_literals
returns c = refl
