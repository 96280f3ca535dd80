-- Roots that stand somewhere, by the number of the database and of the anchor.
use Rattle.std.specs.Prelude.{◌≡◌, ℕ, List, true, Some, slice_get}
use Rattle.dli_tree.specs.InOrder.{any_ends}
use Rattle.fp_model.specs.declared.database.Db.{Db}
use Rattle.fp_model.specs.declared.database.Root.{Root}
use Rattle.fp_model.specs.declared.definitions.DedbDef.{DedbDef}
use Rattle.fp_model.specs.Shape.{is_anchor}
use Rattle.fp_model.specs.State.{roots_at}

-- they are those of a state
abbrev pub AreRootsOf : Db → (ℕ → ℕ → List Root) → Type 0
AreRootsOf now roots = (dedb anchor : ℕ) → roots_at now dedb anchor ≡ roots dedb anchor

-- those of each anchor have the anchor's shape
abbrev pub HaveShapes : List DedbDef → (ℕ → ℕ → List Root) → Type 0
HaveShapes defs roots =
    (dedb anchor : ℕ) (def : DedbDef) → slice_get defs dedb ≡ Some def
    → is_anchor def anchor any_ends (roots dedb anchor) ≡ true
