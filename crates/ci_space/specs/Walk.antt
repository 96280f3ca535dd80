-- The words of the private walks over an interval's elements.
use Rattle.std.specs.Prelude.{ℕ, ◌+◌, ◌*◌, Bool, IsTrue, List, length, slice_index}
use Rattle.ci_space.specs.Element.{Element, Chain, StartsUsed, IsMerged}

-- the bytes are tiled from `at` to their end; where a free element stands before, a used one begins
pub record TilesFrom (bytes : List ℕ) (at : ℕ) (after_free : Bool) : Type 0 where
  pub elements : List Element
  pub chain : Chain elements bytes at (length bytes)
  pub is_merged : IsMerged elements
  pub apart : IsTrue after_free → StartsUsed elements

-- what the first two bytes of an element say
abbrev pub length_of : List ℕ → ℕ → ℕ
length_of bytes at = slice_index bytes at * 256 + slice_index bytes (at + 1)
