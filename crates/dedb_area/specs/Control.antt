-- What control of an area says.
use Rattle.std.specs.Prelude.{◌≡◌, ℕ, ◌-◌, ◌≤◌, ◌^◌, List, slice_index}
use Rattle.ci_space.specs.Interval.{IsInterval, kind_of}
use Rattle.ci_space.specs.Head.{ends_of}
use Rattle.fp_model.specs.declared.database.AreaEnds.{AreaEnds}

-- these bytes are control
pub record IsControl (control : List ℕ) : Type 0 where
  pub is_interval : IsInterval control
  pub is_kind : kind_of control ≡ 1

-- its first two numbers are the ends of a sequential part with so many slots: the least serial that is kept, and the one
-- that the next sequential dependent gets
pub record AreEnds (capacity : ℕ) (control : List ℕ) : Type 0 where
  pub some : 1 ≤ slice_index (ends_of control) 0
  pub ordered : slice_index (ends_of control) 0 ≤ slice_index (ends_of control) 1
  pub bounded : slice_index (ends_of control) 1 ≤ 2 ^ 62
  pub kept : slice_index (ends_of control) 1 - slice_index (ends_of control) 0 ≤ capacity

-- both
pub record IsControlOf (capacity : ℕ) (control : List ℕ) : Type 0 where
  pub is_control : IsControl control
  pub are_ends : AreEnds capacity control

-- the ends that control has
abbrev pub ends_in : List ℕ → AreaEnds
ends_in control = record { begin = slice_index (ends_of control) 0; end = slice_index (ends_of control) 1 }
