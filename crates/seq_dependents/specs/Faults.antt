-- When an interval of a sequential part is at fault.
use Rattle.std.specs.Prelude.{◌≡◌, ℕ, ◌<◌, ◌≤◌, List}
use Rattle.ci_overflow.specs.Places.{first_sequential, first_independent}
use Rattle.seq_dependents.specs.declared.part.Part.{Part}
use Rattle.seq_dependents.specs.Slots.{IsSequential, HasSerial, interval_of, slot_of}
use Rattle.seq_dependents.specs.Control.{IsControlOf, IsKept}

-- no sequential interval stands there, in the sequential part
pub record IsMisplaced (part : Part) (area : List (List ℕ)) (ci : ℕ) : Type 0 where
  pub behind : first_sequential part.shape ≤ ci
  pub before : ci < first_independent part.shape
  pub missing : ¬ IsSequential part area ci

-- the interval `ci` is at fault
pub data IsAtFault (part : Part) (area : List (List ℕ)) (ci : ℕ) : Type 0 where
  -- control is none, or its ends are none, or it keeps more serials than there are slots
  in_control : ci ≡ 0 → ¬ IsControlOf part.capacity area → IsAtFault part area ci
  -- no sequential interval stands in the sequential part
  misplaced : IsMisplaced part area ci → IsAtFault part area ci
  -- the slot of a serial that is kept holds another one, or a previous one that isn't before it
  other_serial : (serial : ℕ) → IsKept area serial → ci ≡ interval_of part serial
      → ¬ HasSerial (slot_of part area serial) serial
      → IsAtFault part area ci
