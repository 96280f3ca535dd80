-- How areas start.
use Rattle.std.specs.Prelude.{◌≡◌, ◌≢◌, ℕ, ◌<◌, List, [], ◌∷◌, length, Some}
use Rattle.ci_space.specs.declared.intervals.Shape.{Shape}
use Rattle.ci_space.specs.Head.{ends_of}
use Rattle.ci_space.specs.Interval.{IsInterval, kind_of, empty_bytes}
use Rattle.ci_overflow.specs.Places.{kind_at, first_independent}
use Rattle.ci_overflow.specs.Lists.{bytes_at}
use Rattle.area_redo.specs.Redo.{AreaBytes}
use Rattle.area_states.specs.declared.place.Place.{Place}
use Rattle.area_states.specs.Places.{place_at}
use Rattle.area_states.specs.States.{AreaState}

-- Control as it starts: the two ends are 1, and it counts no independent overflow interval.
pub record StartsControl (size : ℕ) (bytes : List ℕ) : Type 0 where
  pub is_interval : IsInterval bytes
  pub is_kind : kind_of bytes ≡ 1
  pub is_size : length bytes ≡ size
  pub ends : ends_of bytes ≡ 1 ∷ 1 ∷ 0 ∷ 0 ∷ []

-- an interval of an area as it starts: control, or an empty one of the kind of its place
pub record StartsAs (shape : Shape) (ci : ℕ) (bytes : List ℕ) : Type 0 where
  pub control : ci ≡ 0 → StartsControl shape.ci bytes
  pub other : ci ≢ 0 → bytes ≡ empty_bytes shape.ci (kind_at shape ci)

-- an area as it starts: it has no independent overflow interval
pub record IsStart (shape : Shape) (area : List (List ℕ)) : Type 0 where
  pub count : length area ≡ first_independent shape
  pub starts : (ci : ℕ) → ci < first_independent shape → StartsAs shape ci (bytes_at area ci)

-- the state of an area that nothing was ever put into
abbrev pub start_state : AreaState
start_state = record { roots = λ anchor. []; begin = 1; end = 1 }

-- the bytes of every area are those that it starts with
abbrev pub AreStarts : List Place → AreaBytes → Type 0
AreStarts places bytes =
    (set : ℕ) (place : Place) → place_at places set ≡ Some place → (ci : ℕ) → ci < first_independent place.shape
    → StartsAs place.shape ci (bytes set ci)
