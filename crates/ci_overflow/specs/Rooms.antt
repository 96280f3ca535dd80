-- Where an element is looked for, and what the calls change.
use Rattle.std.specs.Prelude.{◌≡◌, ◌≢◌, ◌⊎◌, ℕ, zero, suc, ◌+◌, ◌<◌, List, [], ◌∷◌, ◌++◌, length, drop, slice_index, IsTrue, ◌≤◌, Option, IfSome, IfNone, ⊤}
use Rattle.ci_space.specs.declared.intervals.Shape.{Shape}
use Rattle.ci_space.specs.Element.{size_for}
use Rattle.ci_space.specs.Interval.{IsInterval, HasUsed, IsUsed, HasRoom, IsFull, OthersStay, Keeps, IsEmpty, kind_of, empty_bytes, is_size}
use Rattle.ci_space.specs.Head.{head_of, ends_of}
use Rattle.ci_overflow.specs.Places.{first_base, first_dependent, first_independent, uow_of, base_of}
use Rattle.ci_overflow.specs.Lists.{bytes_at, link_of, owner_of, counted, first_free, IsChain, IsOwned}
use Rattle.ci_overflow.specs.declared.reading.Tried.{Tried}

-- so many intervals from `first` on
abbrev pub numbers_from : ℕ → ℕ → List ℕ
numbers_from first zero = []
numbers_from first (suc n) = first ∷ numbers_from (first + 1) n

-- the intervals of an anchor and its unit of work, in the order in which they are tried; `shared` is the
-- overflow list of the unit of work
abbrev pub places : Shape → ℕ → List ℕ → List ℕ
places shape anchor shared =
    base_of shape anchor ∷ numbers_from (first_dependent shape (uow_of shape anchor)) shape.overflow ++ shared

-- none of these intervals has a free element for `n` bytes
abbrev pub AreFull : List (List ℕ) → ℕ → List ℕ → Type 0
AreFull area n [] = ⊤
AreFull area n (first ∷ rest) = IsFull (bytes_at area first) n × AreFull area n rest

-- all of these before `ci` are full
abbrev pub IsFirst : List (List ℕ) → ℕ → List ℕ → ℕ → Type 0
IsFirst area n [] ci = ⊥
IsFirst area n (first ∷ rest) ci = (first ≡ ci) ⊎ (IsFull (bytes_at area first) n × IsFirst area n rest ci)

-- the interval that joins a full list: the first of the free chain, or where that is empty a new one
abbrev pub IsNext : List (List ℕ) → ℕ → Type 0
IsNext area ci = ((ci ≢ 0) × (ci ≡ first_free area)) ⊎ ((first_free area ≡ 0) × (ci ≡ length area))

-- `ci` is the first interval in the stated order that isn't full, or all are full and it joins them
pub record IsFirstPlace (shape : Shape) (area : List (List ℕ)) (anchor n ci : ℕ) : Type 0 where
  pub shared : List ℕ
  pub is_chain : IsChain area (link_of (bytes_at area (first_base shape (uow_of shape anchor)))) shared
  pub is_first : IsFirst area n (places shape anchor shared) ci
      ⊎ (AreFull area n (places shape anchor shared) × IsNext area ci)

-- the used elements stay, with their segment types and contents, and none comes
pub record KeepsUsed (old new : List ℕ) : Type 0 where
  pub stay : (place segment : ℕ) (content : List ℕ) → HasUsed old place segment content
      → HasUsed new place segment content
  pub none_comes : (place segment : ℕ) (content : List ℕ) → HasUsed new place segment content
      → HasUsed old place segment content

-- the used elements of every interval stay but the one at `at` of `ci`
pub record OnlyOneChanges (old new : List (List ℕ)) (ci at : ℕ) : Type 0 where
  pub here : OthersStay (bytes_at old ci) (bytes_at new ci) at
  pub elsewhere : (other : ℕ) → other ≢ ci → KeepsUsed (bytes_at old other) (bytes_at new other)

-- the used element at `at` has the bytes that one for `n` needs, and no more
abbrev pub HasSizeFor : List ℕ → ℕ → ℕ → Type 0
HasSizeFor bytes at n = (segment : ℕ) (content : List ℕ) → HasUsed bytes at segment content
    → 4 + length content ≡ size_for n

-- a new used element with room for `n` bytes and no more stands at `at`, and all others stay
pub record TakesIn (old new : List ℕ) (n at : ℕ) : Type 0 where
  pub room : HasRoom new at n
  pub exact : HasSizeFor new at n
  pub fresh : ¬ IsUsed old at
  pub others : OthersStay old new at
  pub is_interval : IsInterval new

-- the interval `ci` becomes these bytes, and no other changes
pub record IsPut (old new : List (List ℕ)) (ci : ℕ) (bytes : List ℕ) : Type 0 where
  pub here : bytes_at new ci ≡ bytes
  pub others : (other : ℕ) → other ≢ ci → bytes_at new other ≡ bytes_at old other
  pub same_number : length new ≡ length old

-- elements are taken from intervals that are no control and not in the free chain
pub record IsInUse (bytes : List ℕ) : Type 0 where
  pub is_no_control : kind_of bytes ≢ 1
  pub is_owned : kind_of bytes ≡ 5 → owner_of bytes ≢ 0

-- an element of the interval `ci` is taken, its head stays, and no other interval changes
pub record TakesAt (old new : List (List ℕ)) (ci n at : ℕ) : Type 0 where
  pub below : ci < length old
  pub is_in_use : IsInUse (bytes_at old ci)
  pub takes : TakesIn (bytes_at old ci) (bytes_at new ci) n at
  pub head : Keeps (bytes_at old ci) (bytes_at new ci) 0 32
  -- no free element comes or becomes longer
  pub fuller : (m : ℕ) → IsFull (bytes_at old ci) m → IsFull (bytes_at new ci) m
  pub others : (other : ℕ) → other ≢ ci → bytes_at new other ≡ bytes_at old other
  pub same_number : length new ≡ length old

-- an interval is tried: one of its elements is taken, or it is full
pub record IsTried (old new : List (List ℕ)) (ci n : ℕ) (tried : Tried) : Type 0 where
  pub link : tried.link ≡ link_of (bytes_at old ci)
  pub some : IfSome tried.at (TakesAt old new ci n)
  pub none : IfNone tried.at (IsFull (bytes_at old ci) n × (new ≡ old))

-- intervals are tried in this order: an element of the first that isn't full is taken, or all are full
pub record AreTried (old new : List (List ℕ)) (tried : List ℕ) (n : ℕ) (room : Option (ℕ × ℕ)) : Type 0 where
  pub some : IfSome room (λ room. IsFirst old n tried room.0 × TakesAt old new room.0 n room.1)
  pub none : IfNone room (AreFull old n tried × (new ≡ old))

-- where a place is given, an element is taken there, and not from control's place
abbrev pub IsTaken : List (List ℕ) → List (List ℕ) → ℕ → Option (ℕ × ℕ) → Type 0
IsTaken old new n room = IfSome room (λ room. (room.0 ≢ 0) × TakesAt old new room.0 n room.1)

-- the used elements and the bytes behind the head stay, and of the head all but the link
pub record ChangesLink (old new : List ℕ) (link : ℕ) : Type 0 where
  pub used : KeepsUsed old new
  pub rest : drop 32 new ≡ drop 32 old
  pub head : head_of new ≡ (record (head_of old) { link = link })
  pub is_interval : IsInterval new

-- control's last two numbers become these, its first two and its head stay
pub record ChangesEnds (old new : List ℕ) (number first : ℕ) : Type 0 where
  pub ends : ends_of new ≡ slice_index (ends_of old) 0 ∷ slice_index (ends_of old) 1 ∷ number ∷ first ∷ []
  pub head : Keeps old new 0 32
  pub used : KeepsUsed old new
  pub is_interval : IsInterval new

-- control is put with these last two numbers, and no other interval changes
pub record PutsEnds (control : List ℕ) (number first : ℕ) (old new : List (List ℕ)) : Type 0 where
  pub bytes : List ℕ
  pub ends : ChangesEnds control bytes number first
  pub put : IsPut old new 0 bytes

-- an interval with these bytes joins the front of a unit of work's list, and an element of it is taken
pub record Joins (shape : Shape) (uow : ℕ) (old new : List (List ℕ)) (ci : ℕ) (bytes : List ℕ) (n at : ℕ) : Type 0 where
  pub first : ChangesLink (bytes_at old (first_base shape uow)) (bytes_at new (first_base shape uow)) ci
  pub takes : TakesIn bytes (bytes_at new ci) n at
  pub head : head_of (bytes_at new ci) ≡ (record {
    kind = 5;
    root = (0, 0);
    link =
        link_of (bytes_at old (first_base shape uow));
    owner = uow + 1;
  })
  pub others : (other : ℕ) → other ≢ first_base shape uow → other ≢ ci → bytes_at new other ≡ bytes_at old other
  pub same_number : length new ≡ length old

-- one empty interval more stands at the end
pub record IsGrown (size : ℕ) (old new : List (List ℕ)) : Type 0 where
  pub last : bytes_at new (length old) ≡ empty_bytes size 5
  pub others : (other : ℕ) → other ≢ length old → bytes_at new other ≡ bytes_at old other
  pub one_more : length new ≡ length old + 1

-- the first of the free chain leaves it and joins a unit of work's list, and `room` is taken from it
pub record JoinsFree (shape : Shape) (uow : ℕ) (old new : List (List ℕ)) (n : ℕ) (room : ℕ × ℕ) : Type 0 where
  pub middle : List (List ℕ)
  pub control : List ℕ
  pub from : first_independent shape ≤ room.0
  pub below : room.0 < length old
  pub is_first : room.0 ≡ first_free old
  pub is_kind : kind_of (bytes_at old room.0) ≡ 5
  pub is_free : owner_of (bytes_at old room.0) ≡ 0
  pub is_empty : IsEmpty (bytes_at old room.0)
  pub ends : ChangesEnds (bytes_at old 0) control (counted old) (link_of (bytes_at old room.0))
  pub put : IsPut old middle 0 control
  pub joins : Joins shape uow middle new room.0 (bytes_at old room.0) n room.1

-- a new interval is counted and joins a unit of work's list, and `room` is taken from it
pub record JoinsNew (shape : Shape) (uow : ℕ) (old new : List (List ℕ)) (n : ℕ) (room : ℕ × ℕ) : Type 0 where
  pub size : ℕ
  pub grown : List (List ℕ)
  pub middle : List (List ℕ)
  pub control : List ℕ
  pub from : first_independent shape ≤ room.0
  pub is_last : room.0 ≡ length old
  pub grows : IsGrown size old grown
  pub is_size : IsTrue (is_size size)
  pub ends : ChangesEnds (bytes_at old 0) control (counted old + 1) (first_free old)
  pub put : IsPut grown middle 0 control
  pub joins : Joins shape uow middle new room.0 (empty_bytes size 5) n room.1

-- control's head and its first two numbers stay
pub record KeepsEnds (old new : List ℕ) : Type 0 where
  pub begin : slice_index (ends_of new) 0 ≡ slice_index (ends_of old) 0
  pub end : slice_index (ends_of new) 1 ≡ slice_index (ends_of old) 1
  pub head : Keeps old new 0 32

-- all bytes but those of the link stay
pub record KeepsButLink (old new : List ℕ) : Type 0 where
  pub rest : drop 32 new ≡ drop 32 old
  pub head : head_of new ≡ (record (head_of old) { link = (head_of new).link })

-- the root anchor points of all intervals stay
abbrev pub KeepsRoots : List (List ℕ) → List (List ℕ) → Type 0
KeepsRoots old new = (other : ℕ) → (head_of (bytes_at new other)).root ≡ (head_of (bytes_at old other)).root

-- each interval stays one, of its kind
abbrev pub KeepsKinds : List (List ℕ) → List (List ℕ) → Type 0
KeepsKinds old new = (other : ℕ) → IsInterval (bytes_at old other)
    → IsInterval (bytes_at new other) × (kind_of (bytes_at new other) ≡ kind_of (bytes_at old other))

-- the interval `ci` was there and keeps its head, and no other changes
pub record KeepsHead (old new : List (List ℕ)) (ci : ℕ) : Type 0 where
  pub below : ci < length old
  pub head : Keeps (bytes_at old ci) (bytes_at new ci) 0 32
  pub others : (other : ℕ) → other ≢ ci → bytes_at new other ≡ bytes_at old other
  pub same_number : length new ≡ length old

-- The interval `ci` is at the front of a unit of work's list now. It was the first of the free chain, which begins
-- where its link led; or where that chain is empty it is a new one, and control counts one more.
pub record JoinsFront (shape : Shape) (uow : ℕ) (old new : List (List ℕ)) (ci : ℕ) : Type 0 where
  pub is_next : IsNext old ci
  pub head : head_of (bytes_at new ci) ≡ (record {
    kind = 5;
    root = (0, 0);
    link =
        link_of (bytes_at old (first_base shape uow));
    owner = uow + 1;
  })
  pub leads : link_of (bytes_at new (first_base shape uow)) ≡ ci
  pub from_free : first_free old ≢ 0 → (first_free new ≡ link_of (bytes_at old ci)) × (counted new ≡ counted old)
      × (length new ≡ length old)
  pub from_end : first_free old ≡ 0 → (first_free new ≡ 0) × (counted new ≡ counted old + 1)
      × (length new ≡ length old + 1)

-- a new element for `n` bytes is there, and all else stays
pub record TakesRoom (shape : Shape) (old new : List (List ℕ)) (anchor n : ℕ) (room : ℕ × ℕ) : Type 0 where
  -- it is a used element now, no longer than `n` bytes need, and was none before
  pub has_room : HasRoom (bytes_at new room.0) room.1 n
  pub exact : HasSizeFor (bytes_at new room.0) room.1 n
  pub fresh : ¬ IsUsed (bytes_at old room.0) room.1
  -- every other used element stays
  pub others : OnlyOneChanges old new room.0 room.1
  -- only control, the first base interval of the unit of work and the one with the new element change
  pub named : (other : ℕ) → other ≢ 0 → other ≢ first_base shape (uow_of shape anchor) → other ≢ room.0
      → bytes_at new other ≡ bytes_at old other
  -- control keeps its first two numbers, and the first base interval all but its link
  pub ends : KeepsEnds (bytes_at old 0) (bytes_at new 0)
  pub base : first_base shape (uow_of shape anchor) ≢ room.0
      → KeepsButLink (bytes_at old (first_base shape (uow_of shape anchor)))
      (bytes_at new (first_base shape (uow_of shape anchor)))
  -- the root anchor points stay
  pub roots : KeepsRoots old new
  -- no interval goes away
  pub longer : length old ≤ length new
  pub kinds : KeepsKinds old new
  -- its interval was there and keeps its head, or joins the front of the unit's list
  pub source : KeepsHead old new room.0 ⊎ JoinsFront shape (uow_of shape anchor) old new room.0

-- where the lists are in order, it stands in the stated place too
pub record FindsRoom (shape : Shape) (old new : List (List ℕ)) (anchor n : ℕ) (room : ℕ × ℕ) : Type 0 where
  -- its interval is the first in the stated order with room
  pub place : IsFirstPlace shape old anchor n room.0
  -- it is a used element now, no longer than `n` bytes need, and was none before
  pub has_room : HasRoom (bytes_at new room.0) room.1 n
  pub exact : HasSizeFor (bytes_at new room.0) room.1 n
  pub fresh : ¬ IsUsed (bytes_at old room.0) room.1
  -- every other used element stays
  pub others : OnlyOneChanges old new room.0 room.1
  -- only control, the first base interval of the unit of work and the one with the new element change
  pub named : (other : ℕ) → other ≢ 0 → other ≢ first_base shape (uow_of shape anchor) → other ≢ room.0
      → bytes_at new other ≡ bytes_at old other
  -- control keeps its first two numbers, and the first base interval all but its link
  pub ends : KeepsEnds (bytes_at old 0) (bytes_at new 0)
  pub base : first_base shape (uow_of shape anchor) ≢ room.0
      → KeepsButLink (bytes_at old (first_base shape (uow_of shape anchor)))
      (bytes_at new (first_base shape (uow_of shape anchor)))
  -- the root anchor points stay
  pub roots : KeepsRoots old new
  -- no interval goes away
  pub longer : length old ≤ length new

-- an interval of an anchor's own: its base interval, a dependent overflow interval of its unit of work, or an
-- independent one that its unit of work has
pub data IsOwnRoom (shape : Shape) (area : List (List ℕ)) (anchor ci : ℕ) : Type 0 where
  its_base : ci ≡ base_of shape anchor → IsOwnRoom shape area anchor ci
  a_dependent : first_dependent shape (uow_of shape anchor) ≤ ci
      → ci < first_dependent shape (uow_of shape anchor) + shape.overflow → IsOwnRoom shape area anchor ci
  an_independent : IsOwned shape area (uow_of shape anchor + 1) ci → IsOwnRoom shape area anchor ci
