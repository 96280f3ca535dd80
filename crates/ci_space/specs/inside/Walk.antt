-- What bodies and proofs need of Walk, beside what contracts say.
use Rattle.std.specs.Prelude.{◌≡◌, ℕ, ◌+◌, ◌-◌, ◌<◌, ◌≤◌, List, [], ◌∷◌, ◌++◌, length, slice_index, All}
use Rattle.ci_space.specs.Interval.{Keeps}
use Rattle.ci_space.specs.Element.{Element, Free, Used, sizes, Chain, IsMerged, free_size, rest_free}
use Rattle.ci_space.specs.Walk.{length_of}

-- four bytes are put at `at`: a length, a tag, and 0 for the segment type
pub record Puts (old new : List ℕ) (at n tag : ℕ) : Type 0 where
  pub is_length : length_of new at ≡ n
  pub is_tag : slice_index new (at + 2) ≡ tag
  pub is_segment : slice_index new (at + 3) ≡ 0
  pub below : Keeps old new 0 at
  pub above : Keeps old new (at + 4) (length old)

-- up to `at` no free element has `n` bytes
pub record WalksPast (bytes : List ℕ) (n at : ℕ) : Type 0 where
  pub before : List Element
  pub after : List Element
  pub done : Chain before bytes 32 at
  pub left : Chain after bytes at (length bytes)
  pub is_merged : IsMerged (before ++ after)
  pub smaller : All (λ e. free_size e < n) before

-- the first free element of `n` bytes or more stands at `at`
pub record IsFirstFree (bytes : List ℕ) (n at : ℕ) : Type 0 where
  pub past : WalksPast bytes n at
  pub free : ℕ
  pub behind : List Element
  pub is_free : past.after ≡ Free free ∷ behind
  pub holds : n ≤ free

-- the free element at `at` becomes a used one of `n` bytes, with the rest free behind it
abbrev pub Splits : List ℕ → List ℕ → ℕ → ℕ → Type 0
Splits old new n at =
    (before after : List Element) (free : ℕ) →
    at ≡ 32 + sizes before →
    n ≤ free →
    Chain (before ++ Free free ∷ after) old 32 (length old) →
    (content : List ℕ) × (4 + length content ≡ n)
    × Chain (before ++ Used 0 content ∷ rest_free (free - n) ++ after) new 32 (length new)

-- the free bytes at the end of a list of elements, and at its beginning
abbrev pub last_free : List Element → ℕ
last_free [] = 0
last_free (e ∷ []) = free_size e
last_free (e ∷ f ∷ es) = last_free (f ∷ es)

abbrev pub first_free : List Element → ℕ
first_free [] = 0
first_free (e ∷ es) = free_size e

-- elements up to `at`, of which the free bytes at their end begin at `start`
pub record WalksTo (bytes : List ℕ) (at start : ℕ) (end : ℕ) : Type 0 where
  pub before : List Element
  pub after : List Element
  pub done : Chain before bytes 32 at
  pub left : Chain after bytes at end
  pub begins : start + last_free before ≡ at
