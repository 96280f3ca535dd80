-- Reading a checkpoint's bytes from left to right.
use Rattle.std.specs.Prelude.{ℕ, ◌-◌, ◌^◌, List, [], ◌∷◌, length, map, take, Option, Some, None, Bool, ◌&&◌, ◌||◌, ◌==◌, nat_le, if◌then◌else◌, codes}
use Rattle.std.specs.Int.{w16, w32, w64}
use Rattle.std.specs.List.{list_any}
use Rattle.log_format.specs.Reading.{byte_at, number_at, part_at, long_at, many_at}
use Rattle.fp_model.specs.Values.{◌>>=◌}
use Rattle.fp_model.specs.CheckpointText.{Checkpoint}
use Rattle.fp_model.specs.Lasts.{Last}
use Rattle.fp_model.specs.Names.{is_name}
use Rattle.fp_model.specs.State.{ascend, key_of}
use Rattle.fp_model.specs.Texts.{padded, same_text}
use Rattle.fp_model.specs.declared.database.Msdb.{Msdb}
use Rattle.fp_model.specs.declared.definitions.MsdbDef.{MsdbDef}

-- ---- letters and numbers

-- the format that a byte says
abbrev pub format_in : List ℕ → ℕ × List ℕ → Option (ℕ × List ℕ)
format_in letters digit =
    if same_text letters (codes "IMSFPCK") && (digit.0 == 49 || digit.0 == 50)
    then Some (digit.0 - 48, digit.1)
    else None

-- the letters, and the format behind them
unfoldable pub letters_at : List ℕ → Option (ℕ × List ℕ)
letters_at bytes = do
  letters ← part_at 7 bytes
  digit ← byte_at letters.1
  format_in letters.0 digit

-- a checkpoint's format and number, by its bytes behind the gate
unfoldable pub head_at : List ℕ → Option ((ℕ × ℕ) × List ℕ)
head_at bytes = do
  format ← letters_at bytes
  number ← number_at w64 format.1
  Some ((format.0, number.0), number.1)

-- ---- databases

abbrev pub msdb_in : MsdbDef → ℕ → List (List ℕ) × List ℕ → Option (Msdb × List ℕ)
msdb_in def size segments =
    if size == def.length && ascend (map (key_of def.fields) segments.0)
    then Some (record { segments = segments.0 }, segments.1)
    else None

-- a database of a definition
unfoldable pub msdb_at : MsdbDef → List ℕ → Option (Msdb × List ℕ)
msdb_at def bytes = do
  size ← number_at w16 bytes
  count ← number_at w32 size.1
  segments ← many_at (part_at def.length) count.0 count.1
  msdb_in def size.0 segments

-- one of each definition, in order
unfoldable pub msdbs_at : List MsdbDef → List ℕ → Option (List Msdb × List ℕ)
msdbs_at [] bytes = Some ([], bytes)
msdbs_at (def ∷ defs) bytes = do
  first ← msdb_at def bytes
  others ← msdbs_at defs first.1
  Some (first.0 ∷ others.0, others.1)

-- behind their number
unfoldable pub all_msdbs_at : List MsdbDef → List ℕ → Option (List Msdb × List ℕ)
all_msdbs_at defs bytes = do
  count ← byte_at bytes
  if count.0 == length defs then msdbs_at defs count.1 else None

-- ---- terminals

-- whether the first n of 8 bytes are a name, and the others blanks
abbrev pub is_name_of : List ℕ → ℕ → Bool
is_name_of bytes n = is_name (take n bytes) && same_text (padded 8 (take n bytes)) bytes

abbrev pub is_stored_name : List ℕ → Bool
is_stored_name bytes = list_any (is_name_of bytes) (1 ∷ 2 ∷ 3 ∷ 4 ∷ 5 ∷ 6 ∷ 7 ∷ 8 ∷ [])

abbrev pub last_in : List ℕ → ℕ → List ℕ × List ℕ → Option (Last × List ℕ)
last_in name number line =
    if is_stored_name name then Some (record { lterm = record { 0 = name }; number = number; line = line.0 }, line.1)
    else None

unfoldable pub last_at : List ℕ → Option (Last × List ℕ)
last_at bytes = do
  name ← part_at 8 bytes
  number ← number_at w64 name.1
  line ← long_at number.1
  last_in name.0 number.0 line

abbrev pub lasts_in : List Last × List ℕ → Option (List Last × List ℕ)
lasts_in lasts = if ascend (map (λ last. last.lterm.0) lasts.0) then Some lasts else None

-- the terminals behind their number
unfoldable pub numbered_at : List ℕ → Option (List Last × List ℕ)
numbered_at bytes = do
  count ← number_at w64 bytes
  lasts ← many_at last_at count.0 count.1
  lasts_in lasts

-- format 1 has none
abbrev pub lasts_at : ℕ → List ℕ → Option (List Last × List ℕ)
lasts_at format bytes = if format == 2 then numbered_at bytes else Some ([], bytes)

-- ---- the whole

abbrev pub placed : ℕ → ℕ → Bool
placed at count = nat_le at (2 ^ 62) && nat_le count at

-- the place in the log, and the number of entries before it
unfoldable pub place_at : List ℕ → Option ((ℕ × ℕ) × List ℕ)
place_at bytes = do
  at ← number_at w64 bytes
  count ← number_at w64 at.1
  if placed at.0 count.0 then Some ((at.0, count.0), count.1) else None

-- a checkpoint's bytes behind its gate: the format and what it keeps
unfoldable pub rest_at : List MsdbDef → List ℕ → Option ((ℕ × Checkpoint) × List ℕ)
rest_at defs bytes = do
  head ← head_at bytes
  place ← place_at head.1
  msdbs ← all_msdbs_at defs place.1
  lasts ← lasts_at head.0.0 msdbs.1
  Some (
    (
      head.0.0,
      record {
        number = head.0.1;
        at = place.0.0;
        count = place.0.1;
        msdbs = msdbs.0;
        lasts = lasts.0;
      },
    ),
    lasts.1,
  )
