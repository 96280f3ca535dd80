-- What changes where an element is given back.
use Rattle.std.specs.Prelude.{◌≡◌, ◌≢◌, ◌⊎◌, ℕ, List, length}
use Rattle.ci_space.specs.declared.intervals.Shape.{Shape}
use Rattle.ci_space.specs.Interval.{IsUsed, Keeps, IsEmpty, kind_of}
use Rattle.ci_overflow.specs.Places.{kind_at}
use Rattle.ci_overflow.specs.Lists.{bytes_at, link_of, owner_of, counted, first_free}
use Rattle.ci_overflow.specs.Rooms.{OnlyOneChanges, KeepsEnds, KeepsButLink, KeepsKinds, KeepsRoots}

-- an independent overflow interval becomes empty
pub record BecomesEmpty (old new : List ℕ) : Type 0 where
  pub is_independent : kind_of old ≡ 5
  pub is_empty : IsEmpty new

-- the interval `ci` is the first of the free chain now, in front of those that were in it
pub record IsFirstFree (old new : List (List ℕ)) (ci : ℕ) : Type 0 where
  pub is_first : first_free new ≡ ci
  pub next : link_of (bytes_at new ci) ≡ first_free old
  pub no_owner : owner_of (bytes_at new ci) ≡ 0

-- the interval `ci` keeps its head, and no other changes
pub record ChangesAlone (old new : List (List ℕ)) (ci : ℕ) : Type 0 where
  pub head : Keeps (bytes_at old ci) (bytes_at new ci) 0 32
  pub others : (other : ℕ) → other ≢ ci → bytes_at new other ≡ bytes_at old other

-- the used element at `at` of the interval `ci` is gone, and all else stays; in whatever order the lists
-- are, and whatever `ci` is
pub record TakesBack (shape : Shape) (old new : List (List ℕ)) (ci at : ℕ) : Type 0 where
  pub was_used : IsUsed (bytes_at old ci) at
  pub gone : ¬ IsUsed (bytes_at new ci) at
  -- every other used element of every interval stays, and none comes
  pub others : OnlyOneChanges old new ci at
  -- an independent overflow interval that becomes empty is the first of the free chain now
  pub freed : BecomesEmpty (bytes_at old ci) (bytes_at new ci) → IsFirstFree old new ci
  -- any other keeps its head, and then it alone changes
  pub kept : ¬ BecomesEmpty (bytes_at old ci) (bytes_at new ci) → ChangesAlone old new ci
  -- beside it and control only that changes whose link led to it, and of that one the link alone
  pub named : (other : ℕ) → other ≢ 0 → other ≢ ci → link_of (bytes_at old other) ≢ ci
      → bytes_at new other ≡ bytes_at old other
  pub links : (other : ℕ) → other ≢ 0 → other ≢ ci → KeepsButLink (bytes_at old other) (bytes_at new other)
  -- control keeps its first two numbers and its head, where the element isn't in its place
  pub ends : ci ≢ 0 → KeepsEnds (bytes_at old 0) (bytes_at new 0)
  -- the root anchor points stay, and in the sequential places all but the interval of the element
  pub roots : KeepsRoots old new
  pub sequential : (other : ℕ) → other ≢ ci → kind_at shape other ≡ 4 → bytes_at new other ≡ bytes_at old other
  pub same_number : length new ≡ length old
  pub kinds : KeepsKinds old new
  -- a link that changes leads on to where that of `ci` led, and control counts as many
  pub relinked : (other : ℕ) → other ≢ 0 → other ≢ ci → (bytes_at new other ≡ bytes_at old other)
      ⊎ (link_of (bytes_at new other) ≡ link_of (bytes_at old ci))
  pub same_count : ci ≢ 0 → counted new ≡ counted old

-- the same where the lists are in order: `ci` is then neither control nor a sequential interval
pub record GivesBack (shape : Shape) (old new : List (List ℕ)) (ci at : ℕ) : Type 0 where
  pub was_used : IsUsed (bytes_at old ci) at
  pub gone : ¬ IsUsed (bytes_at new ci) at
  -- every other used element of every interval stays, and none comes
  pub others : OnlyOneChanges old new ci at
  -- an independent overflow interval that becomes empty is the first of the free chain now
  pub freed : BecomesEmpty (bytes_at old ci) (bytes_at new ci) → IsFirstFree old new ci
  -- any other keeps its head, and then it alone changes
  pub kept : ¬ BecomesEmpty (bytes_at old ci) (bytes_at new ci) → ChangesAlone old new ci
  -- beside it and control only that changes whose link led to it, and of that one the link alone
  pub named : (other : ℕ) → other ≢ 0 → other ≢ ci → link_of (bytes_at old other) ≢ ci
      → bytes_at new other ≡ bytes_at old other
  pub links : (other : ℕ) → other ≢ 0 → other ≢ ci → KeepsButLink (bytes_at old other) (bytes_at new other)
  -- control keeps its first two numbers and its head
  pub ends : KeepsEnds (bytes_at old 0) (bytes_at new 0)
  -- the root anchor points and the sequential intervals stay
  pub roots : KeepsRoots old new
  pub sequential : (other : ℕ) → kind_at shape other ≡ 4 → bytes_at new other ≡ bytes_at old other
  pub same_number : length new ≡ length old
