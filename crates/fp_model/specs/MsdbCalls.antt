-- Calls to a main storage database. Each is answered on the committed state; the transaction's own changes aren't seen.
use Rattle.std.specs.Prelude.{ℕ, List, [], ◌∷◌, ◌++◌, codes, Bool, true, false, not, ◌&&◌, ◌==◌, if◌then◌else◌, Option, Some, None, is_some, unwrap_or, option_and_then, slice_get, slice_set}
use Rattle.std.specs.List.{list_any}
use Rattle.fp_model.specs.declared.definitions.MsdbDef.{MsdbDef}
use Rattle.fp_model.specs.declared.database.Msdb.{Msdb}
use Rattle.fp_model.specs.declared.calls.Answer.{Answer}
use Rattle.fp_model.specs.declared.calls.Call.{Call}
use Rattle.fp_model.specs.declared.calls.Call.TheVariants as call
use Rattle.fp_model.specs.declared.calls.Deferred.{Deferred}
use Rattle.fp_model.specs.declared.calls.Deferred.TheVariants as deferred
use Rattle.fp_model.specs.declared.calls.Get.{Get}
use Rattle.fp_model.specs.declared.calls.Get.TheVariants as get
use Rattle.fp_model.specs.declared.calls.Mode.TheVariants.{Exclusive}
use Rattle.fp_model.specs.declared.calls.Resource.TheVariants.{Segment}
use Rattle.fp_model.specs.declared.calls.Ssa.{Ssa}
use Rattle.fp_model.specs.Texts.{same_text}
use Rattle.fp_model.specs.State.{key_of, segment_of, segment_after}
use Rattle.fp_model.specs.Fsas.{fsas_in, list_on, all_blank}
use Rattle.fp_model.specs.Workspace.{MsdbPosition, no_msdb_position, Workspace}
use Rattle.fp_model.specs.Answers.{Replied, Needed, answered, showing, lettered, blank}

-- the key that the search arguments name
abbrev pub key_named : List Ssa → Option (List ℕ)
key_named ssas = option_and_then (λ ssa. ssa.key) (slice_get ssas 0)

module _ (def : MsdbDef) (msdb : ℕ) where
  -- the call inserts or deletes the segment of a key
  abbrev pub puts_or_drops : List ℕ → Deferred → Bool
  puts_or_drops key (deferred.Isrt m bytes) = m == msdb && same_text (key_of def.fields bytes) key
  puts_or_drops key (deferred.Dlet m k) = m == msdb && same_text k key
  puts_or_drops key (deferred.Fld m k fsas) = false
  puts_or_drops key (deferred.Repl m bytes) = false

  -- the transaction has queued such a call
  abbrev pub is_put_or_dropped : Workspace → List ℕ → Bool
  is_put_or_dropped own key = list_any (puts_or_drops key) own.deferred

  abbrev pub position_of : Workspace → MsdbPosition
  position_of own = unwrap_or (slice_get own.msdbs msdb) no_msdb_position

  abbrev pub with_position : MsdbPosition → Workspace → Workspace
  with_position p own = record own { msdbs = slice_set own.msdbs msdb p }

  -- Every answered call ends the hold.
  abbrev pub hold_ended : Workspace → Workspace
  hold_ended own = with_position (record (position_of own) { held = false }) own

  abbrev pub refused : Workspace → List ℕ → Replied
  refused own status = record { answer = answered status; own = hold_ended own }

  abbrev pub queued : Workspace → Answer → Deferred → Replied
  queued own answer d = record { answer = answer; own = record (hold_ended own) { deferred = own.deferred ++ d ∷ [] } }

  -- a segment found, with a hold or without; or the letters that say that there is none
  abbrev pub found_or : List ℕ → Bool → Workspace → Option (List ℕ) → Replied
  found_or status hold own None = refused own status
  found_or status hold own (Some segment) =
      record {
        answer = showing 0 segment;
        own = with_position (record { key = Some (key_of def.fields segment); held = hold }) own;
      }

  -- GU, GN and GHU of a key; the other gets are refused
  abbrev pub get_reply : Msdb → Msdb → Workspace → Get → Bool → Option (List ℕ) → Replied
  get_reply now visible own get.Unique false (Some key) = found_or (codes "GE") false own (segment_of def visible key)
  get_reply now visible own get.Unique false None = found_or (codes "GE") false own (segment_after def visible None)
  get_reply now visible own get.Unique true (Some key) = found_or (codes "GE") true own (segment_of def now key)
  get_reply now visible own get.Unique true None = refused own (codes "AM")
  get_reply now visible own get.Next false key =
      found_or (codes "GB") false own (segment_after def visible (position_of own).key)
  get_reply now visible own get.Next true key = refused own (codes "AM")
  get_reply now visible own get.NextInParent hold key = refused own (codes "AM")

  -- the letters on the segment, if it is there
  abbrev pub fld_reply : Workspace → List ℕ → List ℕ → Option (List ℕ) → Replied
  fld_reply own key fsas None = refused own (codes "GE")
  fld_reply own key fsas (Some segment) =
      let letters : List ℕ = (list_on def (fsas_in fsas) segment).letters in
      if all_blank letters
      then queued own (lettered blank letters) (deferred.Fld msdb key fsas)
      else record { answer = lettered (codes "FE") letters; own = hold_ended own }

  -- with the key of the segment that is held
  abbrev pub repl_reply : Workspace → List ℕ → List ℕ → Replied
  repl_reply own bytes key =
      if is_put_or_dropped own key then refused own (codes "XP")
      else if same_text (key_of def.fields bytes) key then queued own (answered blank) (deferred.Repl msdb bytes)
      else refused own (codes "DA")

  abbrev pub isrt_reply : Msdb → Workspace → List ℕ → Replied
  isrt_reply now own bytes =
      if not def.dynamic then refused own (codes "AM")
      else if is_put_or_dropped own (key_of def.fields bytes) then refused own (codes "XP")
      else if is_some (segment_of def now (key_of def.fields bytes)) then refused own (codes "II")
      else queued own (answered blank) (deferred.Isrt msdb bytes)

  abbrev pub dlet_reply : Workspace → List ℕ → Replied
  dlet_reply own key =
      if is_put_or_dropped own key then refused own (codes "XP")
      else queued own (answered blank) (deferred.Dlet msdb key)

  -- the key that is held, if the last call to the database was a hold get that found it
  abbrev pub held_key : Workspace → Option (List ℕ)
  held_key own = if (position_of own).held then (position_of own).key else None

  abbrev pub if_held : Workspace → (List ℕ → Replied) → Option (List ℕ) → Replied
  if_held own reply None = refused own (codes "DJ")
  if_held own reply (Some key) = reply key

  -- The answer to a call: holds and inserts look at the database now, all else at the one visible.
  abbrev pub msdb_reply : Msdb → Msdb → Workspace → Call → Replied
  msdb_reply now visible own (call.Get get hold db ssas) = get_reply now visible own get hold (key_named ssas)
  msdb_reply now visible own (call.Fld db key fsas) =
      if is_put_or_dropped own key then refused own (codes "XP")
      else fld_reply own key fsas (segment_of def visible key)
  msdb_reply now visible own (call.Repl db bytes) = if_held own (repl_reply own bytes) (held_key own)
  msdb_reply now visible own (call.Isrt db ssas bytes) = isrt_reply now own bytes
  msdb_reply now visible own (call.Dlet db) =
      if not def.dynamic then refused own (codes "AM") else if_held own (dlet_reply own) (held_key own)

  -- GU, GN, and a FLD that isn't answered XP, look without a hold.
  abbrev pub msdb_looks : Workspace → Call → Bool
  msdb_looks own (call.Get get.Unique hold db ssas) = not hold
  msdb_looks own (call.Get get.Next hold db ssas) = not hold
  msdb_looks own (call.Get get.NextInParent hold db ssas) = false
  msdb_looks own (call.Fld db key fsas) = not (is_put_or_dropped own key)
  msdb_looks own (call.Repl db bytes) = false
  msdb_looks own (call.Isrt db ssas bytes) = false
  msdb_looks own (call.Dlet db) = false

  abbrev pub exclusively : List ℕ → Option Needed
  exclusively key = Some (record { resource = Segment msdb key; mode = Exclusive })

  abbrev pub for_get : Get → Bool → Option (List ℕ) → Option Needed
  for_get get.Unique true (Some key) = exclusively key
  for_get get.Unique true None = None
  for_get get.Unique false key = None
  for_get get.Next hold key = None
  for_get get.NextInParent hold key = None

  -- the lock that a call has to have: GHU of a key, and an ISRT that isn't refused before
  abbrev pub msdb_need : Workspace → Call → Option Needed
  msdb_need own (call.Get get hold db ssas) = for_get get hold (key_named ssas)
  msdb_need own (call.Isrt db ssas bytes) =
      if def.dynamic && not (is_put_or_dropped own (key_of def.fields bytes))
      then exclusively (key_of def.fields bytes)
      else None
  msdb_need own (call.Fld db key fsas) = None
  msdb_need own (call.Repl db bytes) = None
  msdb_need own (call.Dlet db) = None
