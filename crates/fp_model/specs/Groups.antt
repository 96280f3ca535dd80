-- What the bytes of a log say: its groups up to the first gate that isn't open, or where they are damaged.
use Rattle.std.specs.Prelude.{◌≡◌, ◌≢◌, ℕ, ◌+◌, ◌^◌, ◌<◌, ◌≤◌, List, ◌++◌, length, drop, slice_index}
use Rattle.std.specs.List.{flat_map, AllByRecursion}
use Rattle.fp_model.specs.LogText.{body_text, group_text, groups_text, HasSpelling}
use Rattle.fp_model.specs.declared.log.Entry.{Entry}

-- the entries of a group: one or more, each with a spelling, and together short enough for a length
pub record IsGroup (entries : List Entry) : Type 0 where
  pub some : 1 ≤ length entries
  pub each : AllByRecursion HasSpelling entries
  pub fits : length (body_text entries) < 2 ^ 64

-- bytes are the body of these entries
abbrev pub IsBody : List ℕ → List Entry → Type 0
IsBody bytes entries = IsGroup entries × (bytes ≡ body_text entries)

-- from a place on the bytes hold these groups, and the next gate stands behind them
pub record HoldsGroups (bytes : List ℕ) (at : ℕ) (groups : List (List Entry)) (gate : ℕ) : Type 0 where
  pub each : AllByRecursion IsGroup groups
  pub next : gate ≡ at + length (groups_text groups)
  pub text : drop at bytes ≡ groups_text groups ++ drop gate bytes

-- Damage: an open gate with no group behind it. So the length is cut short or 0, or passes the end of the bytes,
-- or the body isn't whole entries that keep the rules.
pub record IsDamaged (bytes : List ℕ) (at : ℕ) : Type 0 where
  pub gate : slice_index bytes at ≡ 1
  pub no_group : (entries : List Entry) (rest : List ℕ) → IsGroup entries → drop at bytes ≢ group_text entries ++ rest

-- what reading comes to: groups and the place of the first gate that isn't 1, or the place of damage
pub data LogReading : Type 0 where
  Groups : (groups : List (List Entry)) (gate : ℕ) → LogReading
  Damage : (at : ℕ) → LogReading

-- What reading from a gate on comes to. A byte past the end isn't 1, so the last gate may be missing.
abbrev pub Reads : List ℕ → ℕ → LogReading → Type 0
Reads bytes at (Groups groups gate) = HoldsGroups bytes at groups gate × (slice_index bytes gate ≢ 1)
Reads bytes at (Damage place) = (groups : List (List Entry)) × HoldsGroups bytes at groups place × IsDamaged bytes place

-- all entries of groups, in order
abbrev pub entries_of : List (List Entry) → List Entry
entries_of groups = flat_map (λ entries. entries) groups
