-- Intervals that are known to have no room.
use Rattle.std.specs.Prelude.{◌≡◌, ℕ, ◌+◌, ◌≤◌, List, Some}
use Rattle.std.specs.Ordering.{nat_cmp}
use Rattle.std.specs.BTreeMap.{BTreeMap, get}
use Rattle.ci_space.specs.declared.intervals.Shape.{Shape}
use Rattle.ci_space.specs.Interval.{IsFull}
use Rattle.ci_overflow.specs.Places.{first_dependent}
use Rattle.ci_overflow.specs.Lists.{bytes_at, link_of, IsOwned}
use Rattle.ci_overflow.specs.Rooms.{numbers_from, AreFull}
use Rattle.ci_overflow.specs.declared.known.Passed.{Passed}
use Rattle.ci_overflow.specs.declared.known.KnownFull.{KnownFull}
use Rattle.ci_overflow.specs.declared.known.SeenFull.{SeenFull}

-- The links lead from the first interval to the last one, whose link leads to `next`: each is an independent overflow
-- interval with this owner, and has no free element for `n` bytes.
pub data AreFullTo (shape : Shape) (area : List (List ℕ)) (owner n : ℕ) : ℕ → ℕ → ℕ → Type 0 where
  the_last : (ci : ℕ) → IsOwned shape area owner ci → IsFull (bytes_at area ci) n
      → AreFullTo shape area owner n ci ci (link_of (bytes_at area ci))
  in_front : (ci last next : ℕ) → IsOwned shape area owner ci → IsFull (bytes_at area ci) n
      → AreFullTo shape area owner n (link_of (bytes_at area ci)) last next
      → AreFullTo shape area owner n ci last next

-- the intervals of a unit of work that are known to have no room for `n` bytes have none
pub record IsKnown (shape : Shape) (area : List (List ℕ)) (uow n : ℕ) (known : KnownFull) : Type 0 where
  pub few : known.dependents ≤ shape.overflow
  pub dependents : AreFull area n (numbers_from (first_dependent shape uow) known.dependents)
  pub listed : (map : BTreeMap ℕ Passed) → known.listed ≡ Some map → (ci : ℕ) (p : Passed)
      → get nat_cmp map ci ≡ Some p → AreFullTo shape area (uow + 1) n ci p.last p.next

-- what walks for room in a unit of work found to have none has none
pub record HasSeen (shape : Shape) (area : List (List ℕ)) (uow : ℕ) (seen : SeenFull) : Type 0 where
  pub each : (n : ℕ) (known : KnownFull) → get nat_cmp seen.known n ≡ Some known → IsKnown shape area uow n known
