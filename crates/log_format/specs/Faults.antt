-- When bytes are no entries.
use Rattle.std.specs.Prelude.{◌≡◌, ◌≢◌, ℕ, List, [], ◌++◌, length, Result, Ok, Err}
use Rattle.std.specs.List.{AllByRecursion}
use Rattle.fp_model.specs.declared.log.Entry.{Entry}
use Rattle.fp_model.specs.LogText.{HasSpelling, entry_text, body_text}
use Rattle.log_format.specs.declared.fault.FormatFault.{FormatFault}
use Rattle.log_format.specs.declared.fault.FormatFault.TheVariants.{Memory, BadEntry}

-- bytes are the spellings of these entries, one after another
pub record Spells (bytes : List ℕ) (entries : List Entry) : Type 0 where
  pub each : AllByRecursion HasSpelling entries
  pub text : bytes ≡ body_text entries

-- Entries up to this place, and behind it some bytes, none of whose beginnings is an entry.
pub record IsFirstBad (bytes : List ℕ) (place : ℕ) : Type 0 where
  pub before : List Entry
  pub rest : List ℕ
  pub each : AllByRecursion HasSpelling before
  pub text : bytes ≡ body_text before ++ rest
  pub is_place : place ≡ length (body_text before)
  pub some : rest ≢ []
  pub none : (e : Entry) (more : List ℕ) → HasSpelling e → rest ≢ entry_text e ++ more

-- a fault is want of memory, or has the place of the first bytes that are no entry
abbrev pub IsCause : List ℕ → FormatFault → Type 0
IsCause bytes Memory = Unit {0}
IsCause bytes (BadEntry place) = IsFirstBad bytes place

-- these entries were read, unless memory ran out
abbrev pub IsReadAs : Result (List Entry) FormatFault → List Entry → Type 0
IsReadAs (Ok found) entries = found ≡ entries
IsReadAs (Err Memory) entries = Unit {0}
IsReadAs (Err (BadEntry place)) entries = ⊥
