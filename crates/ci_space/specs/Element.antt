-- What an interval is tiled with: elements, one behind the other.
use Rattle.std.specs.Prelude.{◌≡◌, ℕ, suc, zero, ◌+◌, ◌*◌, ◌/◌, ◌%◌, ◌≤◌, List, [], ◌∷◌, length, slice_index, slice_range, ⊤}

-- a free element has its length, a used one its segment type and its content
pub data Element : Type 0 where
  Free : ℕ → Element
  Used : ℕ → List ℕ → Element

-- an element's bytes: its first four, which are length 2, tag 1 and segment type 1, and its content
abbrev pub size : Element → ℕ
size (Free n) = n
size (Used segment content) = 4 + length content

abbrev pub sizes : List Element → ℕ
sizes [] = 0
sizes (e ∷ es) = size e + sizes es

-- an element of `n` bytes begins at `at`
pub record Begins (bytes : List ℕ) (at n tag segment : ℕ) : Type 0 where
  pub is_length : slice_index bytes at * 256 + slice_index bytes (at + 1) ≡ n
  pub is_tag : slice_index bytes (at + 2) ≡ tag
  pub is_segment : slice_index bytes (at + 3) ≡ segment
  pub least : 4 ≤ n
  pub fours : n % 4 ≡ 0

-- this element stands at `at`: the tag of a free one is 0, as its segment type is, that of a used one 1
abbrev pub StandsAt : List ℕ → ℕ → Element → Type 0
StandsAt bytes at (Free n) = Begins bytes at n 0 0
StandsAt bytes at (Used segment content) =
    Begins bytes at (4 + length content) 1 segment × (slice_range bytes (at + 4) (at + 4 + length content) ≡ content)

-- these elements stand one behind the other from `at` to `end`
abbrev pub Chain : List Element → List ℕ → ℕ → ℕ → Type 0
Chain [] bytes at end = at ≡ end
Chain (e ∷ es) bytes at end = StandsAt bytes at e × Chain es bytes (at + size e) end

-- no free element comes first
abbrev pub StartsUsed : List Element → Type 0
StartsUsed [] = ⊤
StartsUsed (Free n ∷ es) = ⊥
StartsUsed (Used segment content ∷ es) = ⊤

-- no two free elements are neighbours
abbrev pub IsMerged : List Element → Type 0
IsMerged [] = ⊤
IsMerged (Free n ∷ es) = StartsUsed es × IsMerged es
IsMerged (Used segment content ∷ es) = IsMerged es

-- a free element of `n` bytes in front of others, one with a free one there
abbrev pub front_free : ℕ → List Element → List Element
front_free n [] = Free n ∷ []
front_free n (Free m ∷ es) = Free (n + m) ∷ es
front_free n (Used segment content ∷ es) = Free n ∷ Used segment content ∷ es

-- the elements with neighbouring free ones merged
abbrev pub merged : List Element → List Element
merged [] = []
merged (Free n ∷ es) = front_free n (merged es)
merged (Used segment content ∷ es) = Used segment content ∷ merged es

-- the free bytes that an element has
abbrev pub free_size : Element → ℕ
free_size (Free n) = n
free_size (Used segment content) = 0

-- the bytes of an element with room for `n`: four more, rounded up to a multiple of 4
abbrev pub size_for : ℕ → ℕ
size_for n = (n + 7) / 4 * 4

-- what is left free behind a new element
abbrev pub rest_free : ℕ → List Element
rest_free zero = []
rest_free (suc n) = Free (suc n) ∷ []
