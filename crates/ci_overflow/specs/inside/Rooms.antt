-- What bodies and proofs need of Rooms, beside what contracts say.
use Rattle.std.specs.Prelude.{◌≡◌, ◌≢◌, ℕ, List}
use Rattle.ci_space.specs.declared.intervals.Shape.{Shape}
use Rattle.ci_overflow.specs.Lists.{first_free, IsChain, IsInOrder}
use Rattle.ci_overflow.specs.Rooms.{AreFull, IsFirst, JoinsFree, JoinsNew, TakesRoom, FindsRoom, IsOwnRoom}

-- what is left to try of these intervals, those before being full
pub record IsLeft (area : List (List ℕ)) (n : ℕ) (all left : List ℕ) : Type 0 where
  pub first : (ci : ℕ) → IsFirst area n left ci → IsFirst area n all ci
  pub full : AreFull area n left → AreFull area n all

-- what is left of every chain from `first` on, where the walk has come to `ci`
pub record IsOnChain (area : List (List ℕ)) (n first ci : ℕ) : Type 0 where
  pub left : (chain : List ℕ) → IsChain area first chain → (rest : List ℕ) × IsChain area ci rest
      × IsLeft area n chain rest

-- the interval that joins the list is the first of the free chain, or where that is empty a new one
pub record JoinsNext (shape : Shape) (uow : ℕ) (old new : List (List ℕ)) (n : ℕ) (room : ℕ × ℕ) : Type 0 where
  pub from_free : first_free old ≢ 0 → JoinsFree shape uow old new n room
  pub from_end : first_free old ≡ 0 → JoinsNew shape uow old new n room

-- what a new element is, in whatever order the lists were, and what more it is where they were in order
pub record TakesOne (shape : Shape) (old new : List (List ℕ)) (anchor n : ℕ) (room : ℕ × ℕ) : Type 0 where
  pub takes : TakesRoom shape old new anchor n room
  pub own : IsOwnRoom shape new anchor room.0
  pub finds : IsInOrder shape old → FindsRoom shape old new anchor n room
  pub in_order : IsInOrder shape old → IsInOrder shape new
