-- Where the slots of a sequential part stand, and what they hold.
use Rattle.std.specs.Prelude.{◌≡◌, ℕ, ◌+◌, ◌-◌, ◌*◌, ◌/◌, ◌%◌, ◌<◌, ◌≤◌, List, length, drop, slice_range}
use Rattle.byteorder.specs.Endian.{big_number}
use Rattle.ci_space.specs.declared.intervals.Shape.{Shape}
use Rattle.ci_space.specs.Interval.{IsInterval, kind_of}
use Rattle.ci_overflow.specs.Lists.{bytes_at}
use Rattle.ci_overflow.specs.Places.{first_sequential}
use Rattle.seq_dependents.specs.declared.part.Part.{Part}

-- the sequential part of an area of this shape, with so many slots, for a segment of so many bytes
abbrev pub part_of : Shape → ℕ → ℕ → Part
part_of shape capacity segment = record { shape = shape; capacity = capacity; segment = segment }

-- the bytes of a slot: serial 8, previous serial 8, segment
abbrev pub slot_size : Part → ℕ
slot_size part = 16 + part.segment

-- the slots of an interval: as many as fit behind byte 32
unfoldable pub slots_each : Part → ℕ
slots_each part = (part.shape.ci - 32) / slot_size part

-- there is a slot, and the sequential intervals hold as many as the capacity
pub record HoldsCapacity (part : Part) : Type 0 where
  pub some : 1 ≤ part.capacity
  pub fits : part.capacity ≤ part.shape.seq_cis * slots_each part

-- the number of a serial's slot, counted through the intervals
unfoldable pub slot_number : Part → ℕ → ℕ
slot_number part serial = serial % part.capacity

-- the interval of a serial's slot, and the slot's place in it
unfoldable pub interval_of : Part → ℕ → ℕ
interval_of part serial = first_sequential part.shape + slot_number part serial / slots_each part

unfoldable pub place_of : Part → ℕ → ℕ
place_of part serial = 32 + slot_number part serial % slots_each part * slot_size part

-- the bytes of a serial's slot in its interval, and in the area
unfoldable pub slot_in : Part → List ℕ → ℕ → List ℕ
slot_in part bytes serial = slice_range bytes (place_of part serial) (place_of part serial + slot_size part)

abbrev pub slot_of : Part → List (List ℕ) → ℕ → List ℕ
slot_of part area serial = slot_in part (bytes_at area (interval_of part serial)) serial

-- what a slot holds: a serial, the previous serial of the same root, and a segment
pub record Holds (slot : List ℕ) (serial previous : ℕ) (segment : List ℕ) : Type 0 where
  pub is_serial : big_number 8 slot ≡ serial
  pub is_previous : big_number 8 (drop 8 slot) ≡ previous
  pub is_segment : drop 16 slot ≡ segment

-- a sequential interval stands there, of the size that the shape says
pub record IsSequential (part : Part) (area : List (List ℕ)) (ci : ℕ) : Type 0 where
  pub below : ci < length area
  pub is_interval : IsInterval (bytes_at area ci)
  pub is_kind : kind_of (bytes_at area ci) ≡ 4
  pub is_size : length (bytes_at area ci) ≡ part.shape.ci

-- the slot holds this serial, and a previous one that is less
pub record HasSerial (slot : List ℕ) (serial : ℕ) : Type 0 where
  pub is_serial : big_number 8 slot ≡ serial
  pub is_earlier : big_number 8 (drop 8 slot) < serial

-- the serial's slot holds it, an earlier previous serial, and a segment of the part's length
pub record IsHeld (part : Part) (area : List (List ℕ)) (serial previous : ℕ) (segment : List ℕ) : Type 0 where
  pub in_place : IsSequential part area (interval_of part serial)
  pub holds : Holds (slot_of part area serial) serial previous segment
  pub is_earlier : previous < serial
  pub is_whole : length segment ≡ part.segment
