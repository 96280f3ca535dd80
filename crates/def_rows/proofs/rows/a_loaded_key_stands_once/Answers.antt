use Rattle.std.proofs.Common.{refl}
use Rattle.def_rows.proofs.OnLiterals.{on_literals}
use Rattle.def_rows.proofs.rows.a_loaded_key_stands_once.Goals as goal

pub returns : goal.returns
unfolding on_literals
returns c = record { twice = refl; misfit = refl }
