use Rattle.std.proofs.Common.{◌≡◌, ℕ, [], ◌∷◌, codes, refl, rules, arith}
use Rattle.fp_model.specs.Names.{IsName}
use Rattle.fp_model.specs.CheckpointText.{AreLasts}
use Rattle.byte_rows.specs.Checkpoints.{last_of_T1}
use Rattle.byte_rows.proofs.checkpoints.terminals_stand_in_format_2.Goals as goal

is_name : IsName last_of_T1.lterm
is_name = (codes "T1", search rules, refl)

are_lasts : AreLasts (last_of_T1 ∷ [])
are_lasts = record {
  few = search rules;
  names = (is_name, tt);
  numbers = search rules;
  lines = search rules;
  in_order = search rules;
}

pub returns-clause-two : goal.returns-clause-two
returns-clause-two c = λ gate some most. record {
  is_format = search rules;
  number_fits = search rules;
  place = most;
  entries = some;
  few = search rules;
  databases = search rules;
  terminals = are_lasts;
  unnumbered = λ (e : ◌≡◌ {A = ℕ} 2 1). absurd (grind arith);
}
