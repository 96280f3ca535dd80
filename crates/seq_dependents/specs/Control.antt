-- The two ends of a sequential part, which control holds.
use Rattle.std.specs.Prelude.{◌≡◌, ◌≢◌, ℕ, ◌-◌, ◌<◌, ◌≤◌, ◌^◌, List, ◌∷◌, length, drop, slice_index}
use Rattle.ci_space.specs.Interval.{IsInterval, Keeps, kind_of}
use Rattle.ci_space.specs.Head.{ends_of}
use Rattle.ci_overflow.specs.Lists.{bytes_at}

-- the least serial that is kept, and the serial that the next sequential dependent gets
unfoldable pub begin_in : List ℕ → ℕ
begin_in control = slice_index (ends_of control) 0

unfoldable pub end_in : List ℕ → ℕ
end_in control = slice_index (ends_of control) 1

abbrev pub begin_of : List (List ℕ) → ℕ
begin_of area = begin_in (bytes_at area 0)

abbrev pub end_of : List (List ℕ) → ℕ
end_of area = end_in (bytes_at area 0)

-- the two ends may stand in control: 0 is no serial
pub record AreEnds (begin end : ℕ) : Type 0 where
  pub some : 1 ≤ begin
  pub ordered : begin ≤ end
  pub bounded : end ≤ 2 ^ 62

-- the first interval is control, with two ends
pub record IsControl (area : List (List ℕ)) : Type 0 where
  pub below : 0 < length area
  pub is_interval : IsInterval (bytes_at area 0)
  pub is_kind : kind_of (bytes_at area 0) ≡ 1
  pub are_ends : AreEnds (begin_of area) (end_of area)

-- and it keeps no more serials than there are slots
pub record IsControlOf (capacity : ℕ) (area : List (List ℕ)) : Type 0 where
  pub is_control : IsControl area
  pub counted : end_of area - begin_of area ≤ capacity

-- the serial is kept: it is from begin to end - 1
pub record IsKept (area : List (List ℕ)) (serial : ℕ) : Type 0 where
  pub from_begin : begin_of area ≤ serial
  pub before_end : serial < end_of area

-- control gets these two ends; its head, its other numbers and the bytes behind them stay
pub record ChangesEnds (old new : List ℕ) (begin end : ℕ) : Type 0 where
  pub is_ends : ends_of new ≡ begin ∷ end ∷ drop 2 (ends_of old)
  pub head : Keeps old new 0 32
  pub behind : drop 64 new ≡ drop 64 old
  pub same_size : length new ≡ length old

-- control of the area gets these two ends, and no other interval changes
pub record PutsEnds (old new : List (List ℕ)) (begin end : ℕ) : Type 0 where
  pub control : ChangesEnds (bytes_at old 0) (bytes_at new 0) begin end
  pub is_interval : IsInterval (bytes_at new 0)
  pub others : (ci : ℕ) → ci ≢ 0 → bytes_at new ci ≡ bytes_at old ci
  pub same_number : length new ≡ length old
