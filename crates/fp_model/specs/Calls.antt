-- Calls: what each is answered, which look without a hold, and which lock each needs first.
use Rattle.std.specs.Prelude.{ℕ, ◌-◌, [], length, codes, Bool, false, Option, None, unwrap_or, slice_get}
use Rattle.std.specs.Option.{option_map_or}
use Rattle.fp_model.specs.declared.definitions.Defs.{Defs}
use Rattle.fp_model.specs.declared.definitions.MsdbDef.{MsdbDef}
use Rattle.fp_model.specs.declared.definitions.DedbDef.{DedbDef}
use Rattle.fp_model.specs.declared.database.Db.{Db}
use Rattle.fp_model.specs.declared.database.Msdb.{Msdb}
use Rattle.fp_model.specs.declared.calls.Call.{Call}
use Rattle.fp_model.specs.declared.calls.Call.TheVariants as call
use Rattle.fp_model.specs.declared.calls.Mode.{Mode}
use Rattle.fp_model.specs.declared.calls.Resource.{Resource}
use Rattle.fp_model.specs.Workspace.{Workspace}
use Rattle.fp_model.specs.Answers.{Replied, Needed, answered, unless_held}
use Rattle.fp_model.specs.MsdbCalls.{msdb_reply, msdb_looks, msdb_need}
use Rattle.fp_model.specs.DedbCalls.{dedb_reply, dedb_need}

-- the database that a call names
abbrev pub database_of : Call → ℕ
database_of (call.Get get hold db ssas) = db
database_of (call.Fld db key fsas) = db
database_of (call.Isrt db ssas bytes) = db
database_of (call.Repl db bytes) = db
database_of (call.Dlet db) = db

-- A main storage database or a data entry database, with its number among its kind.
pub data Target : Type 0 where
  OnMsdb : MsdbDef → ℕ → Target
  OnDedb : DedbDef → ℕ → Target
  Nowhere : Target

abbrev pub dedb_target : Defs → ℕ → Target
dedb_target defs dedb = option_map_or (λ def. OnDedb def dedb) (slice_get defs.dedbs dedb) Nowhere

-- main storage databases are counted first
abbrev pub target_of : Defs → ℕ → Target
target_of defs db =
    option_map_or (λ def. OnMsdb def db) (slice_get defs.msdbs db) (dedb_target defs (db - length defs.msdbs))

abbrev pub msdb_at : Db → ℕ → Msdb
msdb_at db msdb = unwrap_or (slice_get db.msdbs msdb) (record { segments = [] })

abbrev pub reply_on : Target → Db → Db → Workspace → Call → Replied
reply_on (OnMsdb def msdb) now visible own c = msdb_reply def msdb (msdb_at now msdb) (msdb_at visible msdb) own c
reply_on (OnDedb def dedb) now visible own c = dedb_reply def dedb now own c
reply_on Nowhere now visible own c = record { answer = answered (codes "AM"); own = own }

-- The answer to a call. Calls to data entry databases, holds and inserts look at the state now; unheld looks at a
-- main storage database look at the state visible.
unfoldable pub reply_to : Defs → Db → Db → Workspace → Call → Replied
reply_to defs now visible own c = reply_on (target_of defs (database_of c)) now visible own c

abbrev pub looks_on : Target → Workspace → Call → Bool
looks_on (OnMsdb def msdb) own c = msdb_looks def msdb own c
looks_on (OnDedb def dedb) own c = false
looks_on Nowhere own c = false

-- whether the call makes an unheld look at a main storage database
unfoldable pub looks_unheld : Defs → Workspace → Call → Bool
looks_unheld defs own c = looks_on (target_of defs (database_of c)) own c

abbrev pub need_on : Target → Db → Workspace → (Resource → Option Mode) → Call → Option Needed
need_on (OnMsdb def msdb) now own held c = option_map_or (unless_held held) (msdb_need def msdb own c) None
need_on (OnDedb def dedb) now own held c = dedb_need def dedb now own held c
need_on Nowhere now own held c = None

-- the first lock, in the order in which the call looks, that isn't held strongly enough
unfoldable pub need_of : Defs → Db → Workspace → (Resource → Option Mode) → Call → Option Needed
need_of defs now own held c = need_on (target_of defs (database_of c)) now own held c
