-- The types of customers: the child types of each, and the lengths of their segments.
use Rattle.std.specs.Prelude.{◌≡◌, ℕ, List, [], ◌∷◌, length, true}
use Rattle.fp_model.specs.declared.definitions.SegDef.{SegDef}
use Rattle.fp_model.specs.Order.{child_types}
use Rattle.fp_model.specs.Shape.{has_length}
use Rattle.fp_model.specs.WellFormed.{has_sequential}
use Rattle.area_states.specs.Places.{sequential_length}

-- segments of a type may have so many bytes
abbrev pub HasLength : List SegDef → ℕ → ℕ → Type 0
HasLength types type size = (bytes : List ℕ) → length bytes ≡ size → has_length types type bytes ≡ true

-- a root of 16 bytes, a sequential type of 8, and a type of 6 below the root
pub record AreCustomerTypes (types : List SegDef) : Type 0 where
  pub below_root : child_types types 0 ≡ 2 ∷ []
  pub below_loan : child_types types 2 ≡ []
  pub root : HasLength types 0 16
  pub loan : HasLength types 2 6
  pub serials : has_sequential types ≡ true
  pub notes : sequential_length types ≡ 8
