-- The names that a statement uses, looked up in the definitions.
use Rattle.std.specs.Prelude.{ℕ, ◌+◌, ◌-◌, ◌≤◌, List, [], ◌∷◌, ◌++◌, length, map, Bool, true, ◌&&◌, ◌||◌, nat_lt, if◌then◌else◌, codes, position, slice_get, option_map, is_some, ok_or, Ok, Err}
use Rattle.std.specs.List.{list_all, list_any}
use Rattle.std.specs.Option.{option_map_or}
use Rattle.fp_model.specs.declared.name.Name.{Name}
use Rattle.fp_model.specs.declared.definitions.Defs.{Defs}
use Rattle.fp_model.specs.declared.definitions.SegDef.{SegDef}
use Rattle.fp_model.specs.declared.definitions.FieldDef.{FieldDef}
use Rattle.fp_model.specs.declared.scripts.SsaText.{SsaText}
use Rattle.fp_model.specs.declared.scripts.FieldText.{FieldText}
use Rattle.fp_model.specs.Texts.{same_text}
use Rattle.fp_model.specs.Values.{layout_of}
use Rattle.txn_tokens.specs.declared.fault.LineFault.TheVariants.{Syntax, UnknownName}
use Rattle.txn_tokens.specs.declared.token.Token.{Token}
use Rattle.txn_tokens.specs.declared.token.Token.TheVariants.{Field}
use Rattle.txn_tokens.specs.declared.written.WrittenSsa.{WrittenSsa}
use Rattle.txn_tokens.specs.Readings.{Reading}
use Rattle.fp_model.specs.Readings.{◌>>=◌}
use Rattle.txn_tokens.specs.Parts.{is_word}

abbrev pub has_name : Name → Name → Bool
has_name name other = same_text other.0 name.0

-- ---- fields

abbrev pub has_field : List FieldDef → Name → Bool
has_field fields name = list_any (λ field. has_name name field.name) fields

-- `IO.f` needs a field of this name: of a main storage database, or of some segment of a data entry database
abbrev pub is_known : Defs → Token → Bool
is_known defs (Field name) =
    list_any (λ def. has_field def.fields name) defs.msdbs
    || list_any (λ dedb. list_any (λ def. has_field def.fields name) dedb.segments) defs.dedbs
is_known defs _ = true

-- each `IO.f` of a line has one
abbrev pub are_known : Defs → List Token → Bool
are_known defs tokens = list_all (is_known defs) tokens

-- ---- databases

-- the number of a database: its place, where main storage databases stand first, and data entry databases behind them
unfoldable pub db_of : Defs → Name → Reading ℕ
db_of defs name =
    let names = map (λ def. def.name) defs.msdbs ++ map (λ def. def.name) defs.dedbs in
    ok_or (position (has_name name) names) UnknownName

-- whether that of a number is a main storage database
abbrev pub is_msdb : Defs → ℕ → Bool
is_msdb defs db = nat_lt db (length defs.msdbs)

-- the segment types of a data entry database
abbrev pub types_of : Defs → ℕ → List SegDef
types_of defs db = option_map_or (λ dedb. dedb.segments) (slice_get defs.dedbs (db - length defs.msdbs)) []

-- databases and segment types have numbers of one byte
pub record HaveByteNumbers (defs : Defs) : Type 0 where
  pub databases : length defs.msdbs + length defs.dedbs ≤ 256
  pub types : (db : ℕ) → length (types_of defs db) ≤ 256

-- ---- segments

-- on a main storage database: none, or `KEY(operand)`
abbrev pub msdb_ssas : List WrittenSsa → Reading (List SsaText)
msdb_ssas [] = Ok []
msdb_ssas (written ∷ []) =
    if is_some written.key && is_word (codes "KEY") written.name
    then Ok (record { segment = 0; key = written.key } ∷ [])
    else Err Syntax
msdb_ssas _ = Err Syntax

-- the number of a segment type
abbrev pub segment_of : List SegDef → Name → Reading ℕ
segment_of types name = ok_or (position (λ def. has_name name def.name) types) UnknownName

-- on a data entry database: each names a segment type
unfoldable pub dedb_ssas : List SegDef → List WrittenSsa → Reading (List SsaText)
dedb_ssas types [] = Ok []
dedb_ssas types (written ∷ more) = do
  segment ← segment_of types written.name
  others ← dedb_ssas types more
  Ok (record { segment = segment; key = written.key } ∷ others)

-- the SSAs of a get
unfoldable pub get_ssas : Defs → ℕ → List WrittenSsa → Reading (List SsaText)
get_ssas defs db written = if is_msdb defs db then msdb_ssas written else dedb_ssas (types_of defs db) written

-- the SSAs of ISRT: none on a main storage database, and at least one on a data entry database
unfoldable pub isrt_ssas : Defs → ℕ → List WrittenSsa → Reading (List SsaText)
isrt_ssas defs db [] = if is_msdb defs db then Ok [] else Err Syntax
isrt_ssas defs db written = if is_msdb defs db then Err Syntax else dedb_ssas (types_of defs db) written

-- the type that ISRT inserts: that of the last SSA; a main storage database has type 0 alone. It is the model's
-- `new_type`, which stands among definitions that are given a message
abbrev pub inserted : List SsaText → ℕ
inserted ssas = option_map_or (λ ssa. ssa.segment) (slice_get ssas (length ssas - 1)) 0

-- the fields of a segment type
abbrev pub fields_of : Defs → ℕ → ℕ → Reading (List FieldDef)
fields_of defs db segment = ok_or (option_map (λ layout. layout.fields) (layout_of defs db segment)) UnknownName

-- the fields that ISRT gives are fields of the new segment
unfoldable pub isrt_fields : Defs → ℕ → List SsaText → List FieldText → Reading (List FieldText)
isrt_fields defs db ssas given = do
  fields ← fields_of defs db (inserted ssas)
  if list_all (λ text. has_field fields text.field) given then Ok given else Err UnknownName
