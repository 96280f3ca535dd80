-- Segments in order, each in a slot that a number names.
use Rattle.std.specs.Prelude.{◌<◌, ◌≤◌, ℕ, List, [], length, map, count_by, ◌==◌, slice_index_or}
use Rattle.std.specs.List.{AllByRecursion}

-- the segments in order, how many slots are free, and how many segments there may be without more memory
pub record Sequence : Type 0 where
  pub items : List (List ℕ)
  pub free : ℕ
  pub capacity : ℕ

-- the segment in the slot of a number
abbrev pub slot_of : List (List ℕ) → ℕ → List ℕ
slot_of slots number = slice_index_or slots number []

-- the segments in the slots of these numbers
abbrev pub in_slots : List (List ℕ) → List ℕ → List (List ℕ)
in_slots slots numbers = map (slot_of slots) numbers

-- how often a number stands in a list
abbrev pub times : ℕ → List ℕ → ℕ
times number numbers = count_by (λ n. n == number) numbers

-- The numbers below their count stand in the order, each once, and each has its slot; so many of them are in use.
pub record AreSlots (slots : ℕ) (order : List ℕ) (used : ℕ) : Type 0 where
  pub once : (number : ℕ) → times number order ≤ 1
  pub below : AllByRecursion (λ number. number < length order) order
  pub there : length order ≤ slots
  pub within : used ≤ length order
