-- The letters of refusals.
use Rattle.std.specs.Prelude.{◌≡◌, ℕ, List, Option, Some, None, Result, Ok, Err, ⊤, if◌then◌else◌}
use Rattle.fp_model.specs.declared.definitions.FieldDef.{FieldDef}
use Rattle.fp_model.specs.Fsas.{is_change, changed, with_change}
use Rattle.fld_calls.specs.declared.field.Refusal.{Refusal}
use Rattle.fld_calls.specs.declared.field.Refusal.TheVariants as refusal

-- the letter of a refusal
abbrev pub letter_of_refusal : Refusal → ℕ
letter_of_refusal refusal.Operation = 65
letter_of_refusal refusal.NoField = 72
letter_of_refusal refusal.Key = 67
letter_of_refusal refusal.Operand = 66
letter_of_refusal refusal.NoNumber = 69
letter_of_refusal refusal.False = 68
letter_of_refusal refusal.Range = 71

-- a blank where there is none
abbrev pub letter_in : Result ⊤ Refusal → ℕ
letter_in (Ok done) = 32
letter_in (Err why) = letter_of_refusal why

-- the bytes of a field behind a good operation: a change puts new ones, and a comparison leaves them
abbrev pub bytes_behind : FieldDef → ℕ → List ℕ → List ℕ → Option (List ℕ)
bytes_behind field op bytes operand = if is_change op then changed field op bytes operand else Some bytes

-- the segment behind a good operation on a field
abbrev pub segment_behind : FieldDef → ℕ → List ℕ → List ℕ → List ℕ
segment_behind field op operand segment = if is_change op then with_change field op operand segment else segment

-- Where there are new bytes they stand now; else it is refused for its range, and the bytes are as they were.
abbrev pub IsDone : Result ⊤ Refusal → List ℕ → List ℕ → Option (List ℕ) → Type 0
IsDone (Ok done) old new (Some bytes) = new ≡ bytes
IsDone (Ok done) old new None = ⊥
IsDone (Err why) old new (Some bytes) = ⊥
IsDone (Err why) old new None = (why ≡ refusal.Range) × (new ≡ old)
