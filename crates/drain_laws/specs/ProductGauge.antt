-- What transactions of this system may still do, at most.
use Rattle.std.specs.Prelude.{ℕ, ◌+◌, ◌*◌, List, [], ◌∷◌, length, map}
use Rattle.std.specs.Option.{option_map_or}
use Rattle.fp_model.specs.declared.definitions.Defs.{Defs}
use Rattle.fp_model.specs.declared.definitions.DedbDef.{DedbDef}
use Rattle.fp_model.specs.declared.calls.Call.{Call}
use Rattle.fp_model.specs.declared.calls.Call.TheVariants as call
use Rattle.fp_model.specs.declared.calls.Mode.TheVariants.{Exclusive}
use Rattle.fp_model.specs.declared.calls.Resource.{Resource}
use Rattle.fp_model.specs.Answers.{Needed}
use Rattle.fp_model.specs.Workspace.{Workspace}
use Rattle.fp_model.specs.MsdbCalls.{msdb_need}
use Rattle.fp_model.specs.DedbCalls.{position_of, anchors_searched, root_named, anchor_lock, lock_of, anchor_of_path, insert_path, held_place}
use Rattle.fp_model.specs.Calls.{Target, OnMsdb, OnDedb, Nowhere, database_of, target_of}
use Rattle.fp_model.specs.Settle.{resources}
use Rattle.fp_model.specs.Asking.{Ask, Asks, Replies, Rolls}
use Rattle.drain_laws.specs.Measure.{Gauge}

-- the anchors that a call to a data entry database may look at
abbrev pub dedb_locks : DedbDef → ℕ → Workspace → Call → List Needed
dedb_locks def dedb own (call.Get get hold n ssas) =
    map (anchor_lock def dedb (lock_of def dedb hold))
    (anchors_searched def dedb (position_of def dedb own) get (root_named def dedb ssas))
dedb_locks def dedb own (call.Fld n key fsas) = []
dedb_locks def dedb own (call.Isrt n ssas bytes) =
    anchor_lock def dedb Exclusive (anchor_of_path def dedb (insert_path def dedb ssas bytes)) ∷ []
dedb_locks def dedb own (call.Repl n bytes) =
    option_map_or (λ place. anchor_lock def dedb Exclusive place.anchor ∷ []) (held_place def dedb own) []
dedb_locks def dedb own (call.Dlet n) =
    option_map_or (λ place. anchor_lock def dedb Exclusive place.anchor ∷ []) (held_place def dedb own) []

-- the locks that a call may ask for
abbrev pub call_locks : Target → Workspace → Call → List Needed
call_locks (OnMsdb def msdb) own c = option_map_or (λ needed. needed ∷ []) (msdb_need def msdb own c) []
call_locks (OnDedb def dedb) own c = dedb_locks def dedb own c
call_locks Nowhere own c = []

abbrev pub exclusive : Resource → Needed
exclusive resource = record { resource = resource; mode = Exclusive }

-- those of a call, or at the end those of the field calls that are queued
abbrev pub locks_for : Defs → Workspace → Ask → List Needed
locks_for defs own (Asks c) = call_locks (target_of defs (database_of c)) own c
locks_for defs own (Replies reply) = map exclusive (resources own.deferred)
locks_for defs own (Rolls code) = []

-- a call looks at no more anchors than a database may have, and a script makes so many calls
abbrev pub gauge_with : ℕ → Defs → Gauge
gauge_with calls defs =
    record { locks = locks_for defs; most = 65536; queued = λ own. length own.deferred; calls = calls }

-- a script that was read makes at most 10,000 calls
abbrev pub gauge_of : Defs → Gauge
gauge_of defs = gauge_with 10000 defs

-- What a line of this system weighs, where a transaction may begin again so often. A try has 10,000 calls and an end,
-- each behind 75,536 locks at most.
abbrev pub weight_of_line : ℕ → ℕ
weight_of_line tries = tries * 755445539 + 755445542
