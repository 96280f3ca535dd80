-- A segment with a text put into one of its fields.
use Rattle.std.specs.Prelude.{ℕ, List, Option, Some}
use Rattle.fp_model.specs.declared.definitions.FieldDef.{FieldDef}
use Rattle.fp_model.specs.Fsas.{with_field}
use Rattle.fp_model.specs.Values.{◌>>=◌, value_bytes}

-- a text as the value of a field of a segment
abbrev pub field_filled : FieldDef → List ℕ → List ℕ → Option (List ℕ)
field_filled field text segment = do
  bytes ← value_bytes field text
  Some (with_field field bytes segment)
