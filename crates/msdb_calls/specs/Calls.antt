-- Calls, by the segments that they are to change.
use Rattle.std.specs.Prelude.{ℕ, List, Bool, false, Option, Some, None}
use Rattle.std.specs.Option.{option_map_or}
use Rattle.fp_model.specs.declared.calls.Call.{Call}
use Rattle.fp_model.specs.declared.calls.Call.TheVariants as call
use Rattle.fp_model.specs.declared.definitions.MsdbDef.{MsdbDef}
use Rattle.fp_model.specs.MsdbCalls.{held_key, is_put_or_dropped}
use Rattle.fp_model.specs.State.{key_of}
use Rattle.fp_model.specs.Workspace.{Workspace}

module _ (def : MsdbDef) (msdb : ℕ) where
  -- the key of the segment that the call is to change
  abbrev pub key_to_change : Workspace → Call → Option (List ℕ)
  key_to_change own (call.Get get hold db ssas) = None
  key_to_change own (call.Fld db key fsas) = Some key
  key_to_change own (call.Repl db bytes) = held_key def msdb own
  key_to_change own (call.Isrt db ssas bytes) = Some (key_of def.fields bytes)
  key_to_change own (call.Dlet db) = held_key def msdb own

  -- whether a deferred call inserts or deletes it
  abbrev pub is_changed : Workspace → Call → Bool
  is_changed own c = option_map_or (is_put_or_dropped def msdb own) (key_to_change own c) false
