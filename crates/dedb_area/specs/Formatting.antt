-- How areas start.
use Rattle.std.specs.Prelude.{◌≡◌, ◌≢◌, ℕ, ◌+◌, ◌*◌, ◌<◌, ◌≤◌, List, [], ◌∷◌, length}
use Rattle.ci_space.specs.declared.intervals.Shape.{Shape}
use Rattle.ci_space.specs.Head.{ends_of}
use Rattle.ci_space.specs.Interval.{IsInterval, kind_of, empty_bytes}
use Rattle.ci_overflow.specs.Places.{kind_at, first_independent}
use Rattle.fp_site.specs.Disk.{Disk, IsDurable}
use Rattle.area_redo.specs.Redo.{interval_in}

-- Control as it starts: the two ends are 1, and it counts no independent overflow interval.
pub record StartsControl (size : ℕ) (bytes : List ℕ) : Type 0 where
  pub is_interval : IsInterval bytes
  pub is_kind : kind_of bytes ≡ 1
  pub is_size : length bytes ≡ size
  pub ends : ends_of bytes ≡ 1 ∷ 1 ∷ 0 ∷ 0 ∷ []

-- an interval of an area as it starts: control, or an empty one of the kind of its place
pub record StartsAs (shape : Shape) (ci : ℕ) (bytes : List ℕ) : Type 0 where
  pub control : ci ≡ 0 → StartsControl shape.ci bytes
  pub other : ci ≢ 0 → bytes ≡ empty_bytes shape.ci (kind_at shape ci)

-- so many intervals of a data set start so, and lie within it
pub record IsStarted (shape : Shape) (count : ℕ) (contents : List ℕ) : Type 0 where
  pub starts : (ci : ℕ) → ci < count → StartsAs shape ci (interval_in shape.ci contents ci)
  pub inside : (ci : ℕ) → ci < count → (ci + 1) * shape.ci ≤ length contents

-- an area stands as it starts, and every crash leaves it so
pub record IsFormatted (shape : Shape) (set : ℕ) (disk : Disk) : Type 0 where
  pub started : IsStarted shape (first_independent shape) (disk.contents set)
  pub durable : IsDurable disk set
