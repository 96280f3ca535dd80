-- Which of several is the first that has a property.
use Rattle.std.specs.Prelude.{ℕ, ◌≡◌, ◌<◌, List, length, slice_index_or}
use Rattle.std.specs.List.{AllWithin}

-- it stands at a place, has the property, and none before that place has
pub record IsFirst {X : Type 0} (Has : X → Type 0) (all : List X) (x : X) : Type 0 where
  pub place : ℕ
  pub inside : place < length all
  pub stands : slice_index_or all place x ≡ x
  pub has : Has x
  pub none_before : AllWithin (λ y. ¬ Has y) all 0 place
