-- How an interval that becomes empty moves from its list to the free chain.
use Rattle.std.specs.Prelude.{◌≡◌, ◌≢◌, ◌⊎◌, ℕ, ◌+◌, ◌<◌, List, length}
use Rattle.ci_space.specs.declared.intervals.Shape.{Shape}
use Rattle.ci_space.specs.Interval.{kind_of}
use Rattle.ci_overflow.specs.Places.{first_base}
use Rattle.ci_overflow.specs.Lists.{bytes_at, link_of, IsOwned}
use Rattle.ci_overflow.specs.declared.before.Numbered.{Numbered}

-- an interval from which a unit of work's list goes on: its first base interval, or one of the list
pub record IsInList (shape : Shape) (area : List (List ℕ)) (uow : ℕ) (one : Numbered) : Type 0 where
  pub is_bytes : one.interval ≡ bytes_at area one.ci
  pub stands : (one.ci ≡ first_base shape uow) ⊎ IsOwned shape area (uow + 1) one.ci

-- the link of `before` leads to `ci` in a unit of work's list: of its first base interval, or of one of
-- the list
pub record IsBefore (shape : Shape) (area : List (List ℕ)) (uow ci : ℕ) (before : Numbered) : Type 0 where
  pub is_bytes : before.interval ≡ bytes_at area before.ci
  pub stands : (before.ci ≡ first_base shape uow) ⊎ IsOwned shape area (uow + 1) before.ci
  pub leads : link_of (bytes_at area before.ci) ≡ ci
  pub apart : before.ci ≢ ci
  pub base_below : first_base shape uow < length area
  pub base_kind : kind_of (bytes_at area (first_base shape uow)) ≡ 2
