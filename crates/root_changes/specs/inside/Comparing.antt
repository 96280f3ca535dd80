-- What bodies and proofs need of Comparing, beside what contracts say.
use Rattle.std.specs.Prelude.{◌≡◌, ◌≢◌, ℕ, ◌<◌, List, slice_get, Some}
use Rattle.root_changes.specs.declared.differing.Difference.{Difference}
use Rattle.root_changes.specs.declared.differing.Difference.TheVariants.{Nowhere, Itself, At, More}
use Rattle.root_changes.specs.Differing.{DifferIn}

-- of two things: they are the same, differ so, or otherwise
pub record Tells {A : Type 0} (Differ : A → A → Type 0) (x y : A) (d : Difference) : Type 0 where
  pub nowhere : d ≡ Nowhere → x ≡ y
  pub itself : d ≡ Itself → Differ x y
  pub below : (k : ℕ) → d ≡ At k → Differ x y
  pub more : d ≡ More → (x ≢ y) × (¬ Differ x y)

-- ---- while two lists are compared

-- a difference at a place behind those so far
abbrev pub one_more : Difference → ℕ → Difference
one_more Nowhere k = At k
one_more Itself k = More
one_more (At j) k = More
one_more More k = More

-- what is told so far, and what is told of the two things at a place
abbrev pub joined : Difference → ℕ → Difference → Difference
joined so_far k Nowhere = so_far
joined so_far k Itself = one_more so_far k
joined so_far k (At j) = one_more so_far k
joined so_far k More = More

-- of the first so many items two differ so, at this place
pub record DifferSoFar {A : Type 0} (Differ : A → A → Type 0) (xs ys : List A) (n k : ℕ) : Type 0 where
  pub within : k < n
  pub x : A
  pub y : A
  pub first : slice_get xs k ≡ Some x
  pub second : slice_get ys k ≡ Some y
  pub differ : Differ x y
  pub elsewhere : (j : ℕ) → j < n → j ≢ k → slice_get xs j ≡ slice_get ys j

-- what is told of the first so many items of two lists
pub record TellsSoFar {A : Type 0} (Differ : A → A → Type 0) (xs ys : List A) (n : ℕ) (d : Difference) : Type 0 where
  pub nowhere : d ≡ Nowhere → (j : ℕ) → j < n → slice_get xs j ≡ slice_get ys j
  pub itself : ¬ (d ≡ Itself)
  pub place : (k : ℕ) → d ≡ At k → DifferSoFar Differ xs ys n k
  pub more : d ≡ More → (xs ≢ ys) × ((k : ℕ) → ¬ DifferIn Differ xs ys k)
