-- The types of families: the child types of each, and the lengths of their segments.
use Rattle.std.specs.Prelude.{◌≡◌, List, [], ◌∷◌}
use Rattle.fp_model.specs.declared.definitions.SegDef.{SegDef}
use Rattle.fp_model.specs.Order.{child_types}
use Rattle.area_runs.specs.Types.{HasLength}

-- two child types and two levels: a root of 12 bytes, a type of 6 below it with one of 4 below that, and a type of 9 below
-- the root
pub record AreFamilyTypes (types : List SegDef) : Type 0 where
  pub below_root : child_types types 0 ≡ 1 ∷ 3 ∷ []
  pub below_loan : child_types types 1 ≡ 2 ∷ []
  pub below_payment : child_types types 2 ≡ []
  pub below_address : child_types types 3 ≡ []
  pub root : HasLength types 0 12
  pub loan : HasLength types 1 6
  pub payment : HasLength types 2 4
  pub address : HasLength types 3 9
