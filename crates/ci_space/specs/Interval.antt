-- Which bytes are an interval, what they hold, and what the calls change.
use Rattle.std.specs.Prelude.{◌≡◌, ◌≢◌, ℕ, ◌+◌, ◌<◌, ◌≤◌, ◌==◌, ◌||◌, Bool, false, List, [], ◌∷◌, ◌++◌, length, take, drop, replicate, slice_index, All, IsTrue, if◌then◌else◌}
use Rattle.std.specs.Prelude.{◌-◌, ◌/◌, ◌%◌}
use Rattle.ci_space.specs.Element.{Element, Free, Used, sizes, Chain, IsMerged, merged, free_size, size_for, rest_free}

-- the sizes that an interval may have
abbrev pub is_size : ℕ → Bool
is_size n = n == 512 || n == 1024 || n == 2048 || n == 4096

-- 1 control, 2 base, 3 dependent overflow, 4 sequential, 5 independent overflow
abbrev pub kind_of : List ℕ → ℕ
kind_of bytes = slice_index bytes 0

-- the kinds that elements tile behind the head
abbrev pub has_elements : ℕ → Bool
has_elements kind = kind == 2 || kind == 3 || kind == 5

-- these, control and sequential
abbrev pub is_kind : ℕ → Bool
is_kind kind = has_elements kind || kind == 1 || kind == 4

-- the bytes from `from` to `to` are 0
abbrev pub IsZero : List ℕ → ℕ → ℕ → Type 0
IsZero bytes from to = (k : ℕ) → from ≤ k → k < to → slice_index bytes k ≡ 0

-- the bytes from `from` to `to` stay
abbrev pub Keeps : List ℕ → List ℕ → ℕ → ℕ → Type 0
Keeps old new from to = (k : ℕ) → from ≤ k → k < to → slice_index new k ≡ slice_index old k

-- as many bytes
abbrev pub SameSize : List ℕ → List ℕ → Type 0
SameSize old new = length new ≡ length old

-- the first 32 bytes are a head: what its kind has no use for is 0
pub record IsHead (bytes : List ℕ) : Type 0 where
  pub kind : IsTrue (is_kind (kind_of bytes))
  pub spare : IsZero bytes 1 4
  pub root : kind_of bytes ≢ 2 → IsZero bytes 4 14
  pub between : IsZero bytes 14 16
  pub link : kind_of bytes ≢ 2 → kind_of bytes ≢ 5 → IsZero bytes 16 24
  pub owner : kind_of bytes ≢ 5 → IsZero bytes 24 32

-- an interval with these elements; control and sequential intervals have none
pub record Tiles (bytes : List ℕ) (elements : List Element) : Type 0 where
  pub size : IsTrue (is_size (length bytes))
  pub head : IsHead bytes
  pub tiled : IsTrue (has_elements (kind_of bytes)) → Chain elements bytes 32 (length bytes)
  pub is_merged : IsMerged elements
  pub untiled : has_elements (kind_of bytes) ≡ false → elements ≡ []
  pub control : kind_of bytes ≡ 1 → IsZero bytes 64 (length bytes)

-- the bytes are an interval
pub record IsInterval (bytes : List ℕ) : Type 0 where
  pub elements : List Element
  pub tiles : Tiles bytes elements

-- an interval of one free element
abbrev pub IsEmpty : List ℕ → Type 0
IsEmpty bytes = Tiles bytes (Free (length bytes - 32) ∷ [])

-- a used element of this segment type and content stands at `at`
pub record HasUsed (bytes : List ℕ) (at segment : ℕ) (content : List ℕ) : Type 0 where
  pub before : List Element
  pub after : List Element
  pub tiles : Tiles bytes (before ++ Used segment content ∷ after)
  pub place : at ≡ 32 + sizes before

-- a used element stands at `at`
pub record IsUsed (bytes : List ℕ) (at : ℕ) : Type 0 where
  pub segment : ℕ
  pub content : List ℕ
  pub used : HasUsed bytes at segment content

-- a used element with room for `n` bytes stands at `at`
pub record HasRoom (bytes : List ℕ) (at n : ℕ) : Type 0 where
  pub segment : ℕ
  pub content : List ℕ
  pub used : HasUsed bytes at segment content
  pub fits : n ≤ length content

-- the used element at `at` becomes what `next` makes of its segment type and content; all others stay
abbrev pub UsedBecomes : List ℕ → List ℕ → ℕ → (ℕ → List ℕ → Element) → Type 0
UsedBecomes old new at next =
    (before after : List Element) (segment : ℕ) (content : List ℕ) →
    at ≡ 32 + sizes before →
    Tiles old (before ++ Used segment content ∷ after) →
    Tiles new (before ++ next segment content ∷ after)

-- every used element but that at `at` stays, with its segment type and its content, and none comes
pub record OthersStay (old new : List ℕ) (at : ℕ) : Type 0 where
  pub stay : (place segment : ℕ) (content : List ℕ) → place ≢ at → HasUsed old place segment content
      → HasUsed new place segment content
  pub none_comes : (place segment : ℕ) (content : List ℕ) → place ≢ at → HasUsed new place segment content
      → HasUsed old place segment content

-- the used element at `at` becomes free, merged with its free neighbours; all others stay
abbrev pub UsedIsFreed : List ℕ → List ℕ → ℕ → Type 0
UsedIsFreed old new at =
    (before after : List Element) (segment : ℕ) (content : List ℕ) →
    at ≡ 32 + sizes before →
    Tiles old (before ++ Used segment content ∷ after) →
    Tiles new (merged (before ++ Free (4 + length content) ∷ after))

-- the first free element that holds `n` bytes becomes a used one at `at`, with what it needn't free
-- behind it; all others stay
pub record Takes (old new : List ℕ) (n at : ℕ) : Type 0 where
  pub before : List Element
  pub free : ℕ
  pub after : List Element
  pub content : List ℕ
  pub was : Tiles old (before ++ Free free ∷ after)
  pub smaller : All (λ e. free_size e < size_for n) before
  pub holds : size_for n ≤ free
  pub place : at ≡ 32 + sizes before
  pub is_size : 4 + length content ≡ size_for n
  pub now : Tiles new (before ++ Used 0 content ∷ rest_free (free - size_for n) ++ after)

-- no free element holds `n` bytes
pub record IsFull (bytes : List ℕ) (n : ℕ) : Type 0 where
  pub elements : List Element
  pub tiles : Tiles bytes elements
  pub smaller : All (λ e. free_size e < size_for n) elements

-- the bytes with these in the place of those from `at` on
abbrev pub written : List ℕ → ℕ → List ℕ → List ℕ
written bytes at these = take at bytes ++ these ++ drop (at + length these) bytes

-- `n` bytes from `at` on end within the interval
abbrev pub EndsWithin : List ℕ → ℕ → ℕ → Type 0
EndsWithin bytes at n = at + n ≤ length bytes

-- what stands behind the head of a new interval: one free element, or zeros
unfoldable pub empty_elements : ℕ → ℕ → List ℕ
empty_elements size kind =
    if has_elements kind
    then (size - 32) / 256 ∷ (size - 32) % 256 ∷ replicate (size - 34) 0
    else replicate (size - 32) 0

-- a new interval, whose head is zeros but for the kind
unfoldable pub empty_bytes : ℕ → ℕ → List ℕ
empty_bytes size kind = kind ∷ replicate 31 0 ++ empty_elements size kind
