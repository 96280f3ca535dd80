-- What a comparison of two lists tells.
use Rattle.std.specs.Prelude.{◌≡◌, ◌≢◌, ℕ, List}
use Rattle.fp_model.specs.declared.database.Node.{Node}
use Rattle.root_changes.specs.declared.differing.Difference.{Difference}
use Rattle.root_changes.specs.declared.differing.Difference.TheVariants.{Nowhere, Itself, At, More}
use Rattle.root_changes.specs.Differing.{DifferIn, RowDiffers}

-- of two lists: they are the same, differ so at one place, or otherwise
pub record TellsPlace {A : Type 0} (Differ : A → A → Type 0) (xs ys : List A) (d : Difference) : Type 0 where
  pub nowhere : d ≡ Nowhere → xs ≡ ys
  pub itself : ¬ (d ≡ Itself)
  pub place : (k : ℕ) → d ≡ At k → DifferIn Differ xs ys k
  pub more : d ≡ More → (xs ≢ ys) × ((k : ℕ) → ¬ DifferIn Differ xs ys k)

-- of two segments with these rows below them, which are the same themselves where Own holds
pub record TellsBelow (Own : Type 0) (rows others : List (List Node)) (d : Difference) : Type 0 where
  pub nowhere : d ≡ Nowhere → Own × (rows ≡ others)
  pub itself : d ≡ Itself → (¬ Own) × (rows ≡ others)
  pub below : (j : ℕ) → d ≡ At j → Own × DifferIn RowDiffers rows others j
  pub same_own : d ≡ More → Own → (rows ≢ others) × ((j : ℕ) → ¬ DifferIn RowDiffers rows others j)
  pub other_own : d ≡ More → ¬ Own → rows ≢ others
