-- What bodies and proofs need of Moves, beside what contracts say.
use Rattle.std.specs.Prelude.{◌≡◌, ◌≢◌, ◌⊎◌, ℕ, ◌+◌, ◌<◌, ◌≤◌, List, length, slice_index}
use Rattle.ci_space.specs.declared.intervals.Shape.{Shape}
use Rattle.ci_space.specs.Interval.{IsEmpty, kind_of}
use Rattle.ci_space.specs.Head.{head_of, ends_of}
use Rattle.ci_overflow.specs.Places.{first_base, first_independent}
use Rattle.ci_overflow.specs.Lists.{bytes_at, link_of, owner_of, counted, first_free, IsChain, Holds, IsOwned}
use Rattle.ci_overflow.specs.Rooms.{KeepsUsed, IsPut, ChangesLink, ChangesEnds, PutsEnds}
use Rattle.ci_overflow.specs.declared.before.Numbered.{Numbered}
use Rattle.ci_overflow.specs.Moves.{IsInList}

-- an independent overflow interval of these bytes stands too far in front, or its owner is no unit of
-- work that has base intervals
abbrev pub HasNoUnit : Shape → ℕ → List ℕ → Type 0
HasNoUnit shape ci bytes = (ci < first_independent shape)
    ⊎ ((owner_of bytes ≡ 0) ⊎ ((shape.uows < owner_of bytes) ⊎ (shape.base ≡ 0)))

-- such a one whose link leads to `ci`, another one
pub record LeadsTo (shape : Shape) (area : List (List ℕ)) (uow ci : ℕ) (before : Numbered) : Type 0 where
  pub in_list : IsInList shape area uow before
  pub leads : link_of (bytes_at area before.ci) ≡ ci
  pub apart : before.ci ≢ ci

-- the links from `first` on end, and `ci` isn't among their intervals
pub record EndsWithout (area : List (List ℕ)) (first ci : ℕ) : Type 0 where
  pub list : List ℕ
  pub is_chain : IsChain area first list
  pub without : ¬ Holds list ci

-- an interval is put with this link, and no other changes
pub record PutsLink (old new : List (List ℕ)) (numbered : Numbered) (link : ℕ) : Type 0 where
  pub bytes : List ℕ
  pub changes : ChangesLink numbered.interval bytes link
  pub put : IsPut old new numbered.ci bytes

-- an empty interval is put to the front of the free chain, which `control` tells
pub record PutsFree (old new : List (List ℕ)) (ci : ℕ) (interval control : List ℕ) : Type 0 where
  pub middle : List (List ℕ)
  pub bytes : List ℕ
  pub counts : PutsEnds control (slice_index (ends_of control) 2) ci old middle
  pub head : head_of bytes ≡ (record { kind = 5; root = (0, 0); link = slice_index (ends_of control) 3; owner = 0 })
  pub used : KeepsUsed interval bytes
  pub is_empty : IsEmpty bytes
  pub put : IsPut middle new ci bytes

-- the interval `ci`, which is to have these bytes but for its head, leaves the list of its unit of work
-- and becomes the first of the free chain
pub record Moves (shape : Shape) (old new : List (List ℕ)) (ci : ℕ) (interval : List ℕ) : Type 0 where
  pub uow : ℕ
  pub before : ℕ
  pub is_uow : uow < shape.uows
  pub has_base : 0 < shape.base
  pub from : first_independent shape ≤ ci
  pub owner : owner_of interval ≡ uow + 1
  pub base_below : first_base shape uow < length old
  pub base_kind : kind_of (bytes_at old (first_base shape uow)) ≡ 2
  pub stands : (before ≡ first_base shape uow) ⊎ IsOwned shape old (uow + 1) before
  pub leads : link_of (bytes_at old before) ≡ ci
  pub apart : before ≢ ci
  pub link : ChangesLink (bytes_at old before) (bytes_at new before) (link_of interval)
  pub ends : ChangesEnds (bytes_at old 0) (bytes_at new 0) (counted old) ci
  pub head : head_of (bytes_at new ci) ≡ (record { kind = 5; root = (0, 0); link = first_free old; owner = 0 })
  pub used : KeepsUsed interval (bytes_at new ci)
  pub is_empty : IsEmpty (bytes_at new ci)
  pub others : (other : ℕ) → other ≢ 0 → other ≢ before → other ≢ ci → bytes_at new other ≡ bytes_at old other
  pub same_number : length new ≡ length old
