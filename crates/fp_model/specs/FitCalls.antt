-- Calls that fit the database which they name: what a script that was read asks, and what such calls are answered. Main
-- storage databases first, then every database.
use Rattle.std.specs.Prelude.{◌≡◌, ◌⊎◌, ⊤, ℕ, ◌+◌, ◌≤◌, List, [], length, Bool, true, false, ◌&&◌, ◌==◌, nat_lt, nat_le, if◌then◌else◌, Option, Some, IfSome, slice_get}
use Rattle.std.specs.List.{AllByRecursion, list_all}
use Rattle.fp_model.specs.declared.definitions.Defs.{Defs}
use Rattle.fp_model.specs.declared.definitions.DedbDef.{DedbDef}
use Rattle.fp_model.specs.declared.definitions.MsdbDef.{MsdbDef}
use Rattle.fp_model.specs.declared.definitions.SegDef.{SegDef}
use Rattle.fp_model.specs.declared.calls.Answer.{Answer}
use Rattle.fp_model.specs.declared.calls.Call.{Call}
use Rattle.fp_model.specs.declared.calls.Call.TheVariants as call
use Rattle.fp_model.specs.declared.calls.Deferred.{Deferred}
use Rattle.fp_model.specs.declared.calls.Ssa.{Ssa}
use Rattle.fp_model.specs.declared.calls.Deferred.TheVariants as deferred
use Rattle.fp_model.specs.declared.scripts.Statement.{Statement}
use Rattle.fp_model.specs.declared.scripts.Statement.TheOpen.{Statement-F, Set, If, Repeat, Break, Reply, Roll, Get, Fld, Isrt, Repl, Dlet}
use Rattle.fp_model.specs.declared.scripts.Statement.TheFolds.{fold-Statement}
use Rattle.fp_model.specs.State.{key_length}
use Rattle.fp_model.specs.Texts.{same_text, trimmed}
use Rattle.fp_model.specs.Fsas.{Fsa, IsFsa, list_text}
use Rattle.fp_model.specs.MsdbCalls.{key_named}
use Rattle.fp_model.specs.Calls.{Target, OnMsdb, OnDedb, Nowhere, database_of}
use Rattle.fp_model.specs.DedbCalls.{held_place, type_of_path}
use Rattle.fp_model.specs.Order.{Place, last_type}
use Rattle.fp_model.specs.Shape.{has_length}
use Rattle.fp_model.specs.Workspace.{Workspace}
use Rattle.fp_model.specs.WellFormed.{Between}

-- ---- scripts

-- 1 to 255 of them
abbrev pub is_some_few : {A : Type 0} → List A → Bool
is_some_few xs = nat_le 1 (length xs) && nat_le (length xs) 255

-- one statement, with the answers for the statements in it
abbrev pub fits_step : Defs → Statement-F Bool → Bool
fits_step defs (Set variable first rest) = true
fits_step defs (If left comparison right taken otherwise) =
    list_all (λ fits. fits) taken && list_all (λ fits. fits) otherwise
fits_step defs (Repeat n body) = list_all (λ fits. fits) body
fits_step defs Break = true
fits_step defs (Reply operands) = true
fits_step defs (Roll code) = true
fits_step defs (Get get hold db ssas) = nat_lt db (length defs.msdbs)
fits_step defs (Fld db key fsas) = nat_lt db (length defs.msdbs) && is_some_few fsas
fits_step defs (Isrt db ssas fields) = nat_lt db (length defs.msdbs)
fits_step defs (Repl db fields) = nat_lt db (length defs.msdbs)
fits_step defs (Dlet db) = nat_lt db (length defs.msdbs)

-- whether each call in a statement names a main storage database, and each field call has 1 to 255 search arguments
abbrev pub fits_statement : Defs → Statement → Bool
fits_statement defs = fold-Statement Bool (fits_step defs)

abbrev pub are_fit : Defs → List Statement → Bool
are_fit defs statements = list_all (fits_statement defs) statements

-- ---- calls

-- the main storage database of a number is defined, and has this
abbrev pub OfMsdb : List MsdbDef → ℕ → (MsdbDef → Type 0) → Type 0
OfMsdb defs number P = (def : MsdbDef) × (slice_get defs number ≡ Some def) × P def

-- a key as long as the database's keys
abbrev pub FitsKey : List ℕ → MsdbDef → Type 0
FitsKey key def = length key ≡ key_length def.fields

-- a segment as long as the database's segments
abbrev pub FitsSegment : List ℕ → MsdbDef → Type 0
FitsSegment bytes def = length bytes ≡ def.length

-- bytes of 1 to 255 field search arguments
pub record IsFsaList (bytes : List ℕ) : Type 0 where
  pub fsas : List Fsa
  pub count : Between 1 255 (length fsas)
  pub each : AllByRecursion IsFsa fsas
  pub text : bytes ≡ list_text fsas

-- the call's key, segment and search arguments are such
abbrev pub FitsCall : Call → MsdbDef → Type 0
FitsCall (call.Get get hold db ssas) def = IfSome (key_named ssas) (λ key. FitsKey key def)
FitsCall (call.Fld db key fsas) def = FitsKey key def × IsFsaList fsas
FitsCall (call.Isrt db ssas bytes) def = FitsSegment bytes def
FitsCall (call.Repl db bytes) def = FitsSegment bytes def
FitsCall (call.Dlet db) def = ⊤

-- a call that names a main storage database, and fits it
abbrev pub IsMsdbCall : List MsdbDef → Call → Type 0
IsMsdbCall defs c = OfMsdb defs (database_of c) (FitsCall c)

-- ---- answers

-- a segment of type 0, the one type that the database has
pub record IsShownOn (number : ℕ) (bytes : List ℕ) (def : MsdbDef) : Type 0 where
  pub root : number ≡ 0
  pub whole : FitsSegment bytes def

-- ---- deferred calls

-- a deferred call as such calls leave it
abbrev pub IsFitDeferred : List MsdbDef → Deferred → Type 0
IsFitDeferred defs (deferred.Fld number key fsas) = OfMsdb defs number (FitsKey key) × IsFsaList fsas
IsFitDeferred defs (deferred.Repl number bytes) = OfMsdb defs number (FitsSegment bytes)
IsFitDeferred defs (deferred.Isrt number bytes) = OfMsdb defs number (FitsSegment bytes)
IsFitDeferred defs (deferred.Dlet number key) = OfMsdb defs number (FitsKey key)

-- ---- every target: main storage databases and data entry databases

-- a search argument names a type, and gives a direct one a key of its length
pub record FitsSsa (types : List SegDef) (ssa : Ssa) : Type 0 where
  pub def : SegDef
  pub named : slice_get types ssa.segment ≡ Some def
  pub key_fits : (def.sequential ≡ true) ⊎ IfSome ssa.key (λ key. length key ≡ key_length def.fields)

abbrev pub AreFitSsas : List SegDef → List Ssa → Type 0
AreFitSsas types ssas = AllByRecursion (FitsSsa types) ssas

-- a key as long as the keys of the root type
abbrev pub FitsRoot : List SegDef → List ℕ → Type 0
FitsRoot types key = (root : SegDef) × (slice_get types 0 ≡ Some root) × (length key ≡ key_length root.fields)

-- A call to a data entry database that showed last a segment of this type: types are in range, keys and segments have
-- their lengths. ISRT has a segment of the last type that it names, REPL one of the type shown.
abbrev pub FitsDedbCall : DedbDef → Option ℕ → Call → Type 0
FitsDedbCall def shown (call.Get get hold db ssas) = AreFitSsas def.segments ssas
FitsDedbCall def shown (call.Fld db key fsas) = FitsRoot def.segments key × IsFsaList fsas
FitsDedbCall def shown (call.Isrt db ssas bytes) =
    AreFitSsas def.segments ssas × (1 ≤ length ssas) × (has_length def.segments (last_type 0 ssas) bytes ≡ true)
FitsDedbCall def shown (call.Repl db bytes) =
    (type : ℕ) × (shown ≡ Some type) × (has_length def.segments type bytes ≡ true)
FitsDedbCall def shown (call.Dlet db) = ⊤

-- a call that fits its target, which showed last a segment of this type
abbrev pub FitsTarget : Target → Option ℕ → Call → Type 0
FitsTarget (OnMsdb def msdb) shown c = FitsCall c def
FitsTarget (OnDedb def dedb) shown c = FitsDedbCall def shown c
FitsTarget Nowhere shown c = ⊥

-- the call is a get, and its answer says that it found
abbrev pub finds : Call → Answer → Bool
finds (call.Get get hold db ssas) answer = same_text (trimmed answer.status) []
finds (call.Fld db key fsas) answer = false
finds (call.Isrt db ssas bytes) answer = false
finds (call.Repl db bytes) answer = false
finds (call.Dlet db) answer = false

-- what is shown is a whole segment of a type of the target
abbrev pub IsShownOf : Target → ℕ → List ℕ → Type 0
IsShownOf (OnMsdb def msdb) type bytes = IsShownOn type bytes def
IsShownOf (OnDedb def dedb) type bytes = has_length def.segments type bytes ≡ true
IsShownOf Nowhere type bytes = ⊥

-- the answer to a get that found shows a whole segment of its target
abbrev pub FitsAnswerOf : Target → Call → Answer → Type 0
FitsAnswerOf target c answer = finds c answer ≡ true → IsShownOf target answer.segment answer.bytes

-- the types shown last, by the number of the database, behind an answered call
abbrev pub shown_behind : Call → Answer → (ℕ → Option ℕ) → ℕ → Option ℕ
shown_behind c answer shown db = if finds c answer && database_of c == db then Some answer.segment else shown db

-- What a transaction holds in a data entry database is of the type shown there last, so that a REPL that fits has the
-- length of what it replaces.
abbrev pub IsTied : Defs → (ℕ → Option ℕ) → Workspace → Type 0
IsTied defs shown own =
    (dedb : ℕ) (def : DedbDef) (place : Place)
    → slice_get defs.dedbs dedb ≡ Some def
    → held_place def dedb own ≡ Some place
    → shown (length defs.msdbs + dedb) ≡ Some (type_of_path def dedb place.path)
