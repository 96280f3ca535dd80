-- What changes when slots are written.
use Rattle.std.specs.Prelude.{◌≡◌, ◌≢◌, ◌⊎◌, ℕ, zero, suc, ◌+◌, ◌-◌, ◌^◌, ◌<◌, ◌≤◌, List, [], ◌∷◌, length, get_or}
use Rattle.ci_space.specs.Interval.{IsInterval}
use Rattle.seq_dependents.specs.Control.{begin_of, end_of, IsKept, ChangesEnds}
use Rattle.ci_overflow.specs.Lists.{bytes_at}
use Rattle.ci_overflow.specs.Places.{first_sequential, first_independent}
use Rattle.seq_dependents.specs.declared.part.Part.{Part}
use Rattle.seq_dependents.specs.Slots.{Holds, IsSequential, interval_of, slot_number, slot_of}

-- a serial is put into its slot; every other slot stays, and so does every other interval
pub record PutsSlot (part : Part) (old new : List (List ℕ)) (serial previous : ℕ) (segment : List ℕ) : Type 0 where
  pub was_in_place : IsSequential part old (interval_of part serial)
  pub in_place : IsSequential part new (interval_of part serial)
  pub holds : Holds (slot_of part new serial) serial previous segment
  pub others : (other : ℕ) → slot_number part other ≢ slot_number part serial
      → slot_of part new other ≡ slot_of part old other
  pub elsewhere : (ci : ℕ) → ci ≢ interval_of part serial → bytes_at new ci ≡ bytes_at old ci
  pub same_number : length new ≡ length old

-- the previous serial of the k-th of new serials from `first` on: the first is linked to `previous`, each
-- other one to the one before it
abbrev pub linked_to : ℕ → ℕ → ℕ → ℕ
linked_to first previous zero = previous
linked_to first previous (suc k) = first + k

-- the first `n` segments are put into the slots of the serials from `first` on, linked to `previous`
pub record Fills (part : Part) (old new : List (List ℕ)) (first previous : ℕ) (segments : List (List ℕ)) (n : ℕ) : Type
    0
  where
    -- each slot holds its serial, the serial that it is linked to, and its segment
    pub holds : (k : ℕ) → k < n
        → Holds (slot_of part new (first + k)) (first + k) (linked_to first previous k) (get_or segments k [])
    -- every other slot stays
    pub others : (serial : ℕ) → ((k : ℕ) → k < n → slot_number part serial ≢ slot_number part (first + k))
        → slot_of part new serial ≡ slot_of part old serial
    -- every interval stays that is not in the sequential part, and those in it stay sequential
    pub elsewhere : (ci : ℕ) → (ci < first_sequential part.shape) ⊎ (first_independent part.shape ≤ ci)
        → bytes_at new ci ≡ bytes_at old ci
    pub in_place : (k : ℕ) → k < n → IsSequential part new (interval_of part (first + k))
    pub stays_sequential : (ci : ℕ) → IsSequential part old ci → IsSequential part new ci
    pub same_number : length new ≡ length old

-- the bytes of the first segment
abbrev pub segment_size : List (List ℕ) → ℕ
segment_size [] = 0
segment_size (segment ∷ segments) = length segment

-- a part with so many slots is too full by its count for `n` more serials
abbrev pub IsTooMany : ℕ → ℕ → ℕ → ℕ → Type 0
IsTooMany capacity begin end n = (capacity < end - begin + n) ⊎ (2 ^ 62 < end + n)

-- these numbers say that the part of this area is too full
pub record IsFullOf (capacity : ℕ) (area : List (List ℕ)) (count begin end n : ℕ) : Type 0 where
  pub is_begin : begin ≡ begin_of area
  pub is_end : end ≡ end_of area
  pub is_count : n ≡ count
  pub too_many : IsTooMany capacity begin end n

-- these segments are put behind the serials that are kept
pub record Appends (part : Part) (old new : List (List ℕ)) (previous : ℕ) (segments : List (List ℕ)) : Type 0 where
  -- the slot of each new serial stands in a sequential interval and holds the serial, the serial that it is
  -- linked to, and its segment
  pub in_place : (k : ℕ) → k < length segments → IsSequential part new (interval_of part (end_of old + k))
  pub holds : (k : ℕ) → k < length segments → Holds (slot_of part new (end_of old + k)) (end_of old + k)
      (linked_to (end_of old) previous k) (get_or segments k [])
  -- every serial that is kept stays as it is in its slot
  pub kept : (serial : ℕ) → IsKept old serial → slot_of part new serial ≡ slot_of part old serial
  -- and so does every other slot but those of the new serials
  pub slots : (serial : ℕ) → ((k : ℕ) → k < length segments → slot_number part serial ≢ slot_number part (end_of old +
      k)) → slot_of part new serial ≡ slot_of part old serial
  -- control's end moves, and no more in it
  pub control : ChangesEnds (bytes_at old 0) (bytes_at new 0) (begin_of old) (end_of old + length segments)
  pub is_control : IsInterval (bytes_at new 0)
  -- every other interval stays that is not in the sequential part, and those in it stay sequential
  pub others : (ci : ℕ) → ci ≢ 0 → (ci < first_sequential part.shape) ⊎ (first_independent part.shape ≤ ci)
      → bytes_at new ci ≡ bytes_at old ci
  pub stays_sequential : (ci : ℕ) → IsSequential part old ci → IsSequential part new ci
  pub same_number : length new ≡ length old
