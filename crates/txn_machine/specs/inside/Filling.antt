-- A segment with one value put into its field, and search arguments in place of their operands.
use Rattle.std.specs.Prelude.{ℕ, Bool, List, [], ◌∷◌, ◌++◌, Option, Some, if◌then◌else◌}
use Rattle.fp_model.specs.declared.calls.Message.{Message}
use Rattle.fp_model.specs.declared.definitions.Defs.{Defs}
use Rattle.fp_model.specs.declared.definitions.FieldDef.{FieldDef}
use Rattle.fp_model.specs.declared.scripts.FieldText.{FieldText}
use Rattle.fp_model.specs.declared.scripts.FsaText.{FsaText}
use Rattle.fp_model.specs.Fsas.{Fsa, field_of, fsa_text, with_field}
use Rattle.fp_model.specs.Values.{◌>>=◌, value_bytes}
use Rattle.fp_model.specs.Operands.{Env, text_of}

-- one value of those that fill a segment
abbrev pub with_value : Defs → Message → Env → List FieldDef → FieldText → List ℕ → Option (List ℕ)
with_value defs message env fields value segment = do
  field ← field_of fields value.field.0
  text ← text_of defs message env value.value
  bytes ← value_bytes field text
  Some (with_field field bytes segment)

-- one field search argument
abbrev pub fsa_given : Defs → Message → Env → FsaText → Option Fsa
fsa_given defs message env fsa = do
  operand ← text_of defs message env fsa.operand
  Some (record { field = fsa.field.0; status = 32; op = fsa.op; operand = operand })

-- the bytes of a list with one argument more, and whether it is the last
abbrev pub with_fsa_text : Bool → List ℕ → Fsa → List ℕ
with_fsa_text last text fsa = text ++ fsa_text fsa ++ (if last then 32 else 42) ∷ []
