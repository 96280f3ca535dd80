-- What bodies and proofs need of Telling, beside what contracts say.
use Rattle.std.specs.Prelude.{◌≡◌, ◌≢◌, ℕ, ◌<◌, ◌≤◌, List, length, slice_get}
use Rattle.fp_model.specs.declared.database.Node.{Node}
use Rattle.root_changes.specs.declared.gaining.Gain.{Gain}
use Rattle.root_changes.specs.declared.gaining.Gain.TheVariants.{New, Within, Not}
use Rattle.root_changes.specs.Gaining.{AreBare}
use Rattle.root_changes.specs.Telling.{GainIn}

-- two lists begin with so many items in common, and no more
pub record BeginAlike {A : Type 0} (xs ys : List A) (n : ℕ) : Type 0 where
  pub within : n ≤ length xs
  pub within_other : n ≤ length ys
  pub alike : (j : ℕ) → j < n → slice_get xs j ≡ slice_get ys j
  pub no_more : n < length xs → n < length ys → slice_get xs n ≢ slice_get ys n

-- of two items at a place with these rows below them, which are the same themselves where Own holds
pub record TellsWithin (Own : Type 0) (place : ℕ) (rows others : List (List Node)) (gain : Gain) : Type 0 where
  pub no_new : (k : ℕ) → gain ≢ New k
  pub within : (k j : ℕ) → gain ≡ Within k j → Own × (k ≡ place) × GainIn rows others j
  pub none : gain ≡ Not → Own → (j : ℕ) → ¬ GainIn rows others j

-- of a new item at a place with these rows below it, where the lists are the same but for it, or aren't
pub record TellsNew (Same : Type 0) (place : ℕ) (rows : List (List Node)) (gain : Gain) : Type 0 where
  pub new : (k : ℕ) → gain ≡ New k → Same × (k ≡ place) × AreBare rows
  pub no_other : (k j : ℕ) → gain ≢ Within k j
  pub none : gain ≡ Not → Same → ¬ AreBare rows
