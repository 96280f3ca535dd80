-- What one call of a queue makes of its database.
use Rattle.std.specs.Prelude.{◌≡◌, ⊤, ℕ, ◌<◌, List, length, Some, None, Result, Ok, Err, false}
use Rattle.fld_calls.specs.Settling.{IsSettled}
use Rattle.fld_calls.specs.declared.arguments.SettleFault.{SettleFault}
use Rattle.fld_calls.specs.declared.arguments.SettleFault.TheVariants as fault
use Rattle.fp_model.specs.Fsas.{Fsa, first_failure, fsas_in, list_on}
use Rattle.fp_model.specs.State.{key_of, segment_of}
use Rattle.fp_model.specs.Settle.{fld_on, with_field_changes}
use Rattle.fp_model.specs.Texts.{same_text}
use Rattle.fp_model.specs.declared.database.Msdb.{Msdb}
use Rattle.fp_model.specs.declared.definitions.MsdbDef.{MsdbDef}
use Rattle.past_segments.specs.Pasts.{IsPastOf}
use Rattle.past_segments.specs.Times.{IsSettledBy, Past, database_at, is_late}

-- a segment with the changes of a list of arguments, or how the list fails; the length stays
abbrev pub IsChanged : MsdbDef → List Fsa → List ℕ → Result (List ℕ) SettleFault → Type 0
IsChanged def fsas segment (Ok new) = IsSettled def fsas segment (Ok tt) new × (length new ≡ length segment)
IsChanged def fsas segment (Err why) = IsSettled def fsas segment (Err why) segment

-- A field call: the database has its changes, or the call fails so; want of memory says nothing.
abbrev pub IsFieldCall : List MsdbDef → MsdbDef → List ℕ → List ℕ → Msdb → Result ⊤ SettleFault → Msdb → Type 0
IsFieldCall defs def key fsas old (Ok done) new =
    (fld_on defs def old key fsas ≡ None) × (new ≡ with_field_changes defs key fsas def old)
IsFieldCall defs def key fsas old (Err (fault.Bad place found)) new =
    fld_on defs def old key fsas ≡ Some (record { place = place; found = found })
IsFieldCall defs def key fsas old (Err fault.Memory) new = ⊤

-- The bytes that a field call gives the segment of a key: those with the changes of its arguments, as long as the segment
-- and with its key.
pub record IsGiven (def : MsdbDef) (key fsas : List ℕ) (msdb : Msdb) (bytes : List ℕ) : Type 0 where
  pub segment : List ℕ
  pub there : segment_of def msdb key ≡ Some segment
  pub good : first_failure def 0 (fsas_in fsas) segment ≡ None
  pub is : bytes ≡ (list_on def (fsas_in fsas) segment).segment
  pub whole : length bytes ≡ def.length
  pub its_key : key_of def.fields bytes ≡ key

-- those bytes, or how the call fails
abbrev pub Gives : MsdbDef → List ℕ → List ℕ → Msdb → Result (List ℕ) SettleFault → Type 0
Gives def key fsas msdb (Ok bytes) = IsGiven def key fsas msdb bytes
Gives def key fsas msdb (Err (fault.Bad place found)) =
    (defs : List MsdbDef) → fld_on defs def msdb key fsas ≡ Some (record { place = place; found = found })
Gives def key fsas msdb (Err fault.Memory) = ⊤

-- What a change of a key at a place leaves: the database is one of its definition, no value stands from behind the place,
-- before it all is as it was, and no other key has a later value that it hadn't.
pub record Leaves (def : MsdbDef) (place : ℕ) (key : List ℕ) (old new : Past) : Type 0 where
  pub is : IsPastOf def new
  pub settled : IsSettledBy place new
  pub before : (p : ℕ) → p < place → database_at p new ≡ database_at p old
  pub late : (other : List ℕ) → same_text key other ≡ false → is_late place new other ≡ is_late place old other
