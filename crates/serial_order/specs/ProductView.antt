-- How the laws look at the states and workspaces of this system.
use Rattle.std.specs.Prelude.{ℕ, ◌+◌, List, [], ◌∷◌, ◌++◌, length, map, Bool, true, nat_le, if◌then◌else◌, Option, None, slice_get}
use Rattle.std.specs.List.{flat_map, list_all}
use Rattle.std.specs.Option.{option_map_or}
use Rattle.fp_model.specs.declared.definitions.Defs.{Defs}
use Rattle.fp_model.specs.declared.definitions.FieldDef.{FieldDef}
use Rattle.fp_model.specs.declared.database.Db.{Db}
use Rattle.fp_model.specs.declared.calls.AnchorChange.{AnchorChange}
use Rattle.fp_model.specs.declared.calls.Call.{Call}
use Rattle.fp_model.specs.declared.calls.Call.TheVariants as call
use Rattle.fp_model.specs.declared.calls.Deferred.{Deferred}
use Rattle.fp_model.specs.declared.calls.Deferred.TheVariants.{Fld, Repl, Isrt, Dlet}
use Rattle.fp_model.specs.declared.calls.Resource.{Resource}
use Rattle.fp_model.specs.declared.calls.Resource.TheVariants.{Segment, Anchor}
use Rattle.fp_model.specs.declared.calls.SeqInsert.{SeqInsert}
use Rattle.fp_model.specs.State.{key_length, key_of, segment_of, roots_at}
use Rattle.fp_model.specs.Calls.{msdb_at}
use Rattle.fp_model.specs.Workspace.{MsdbPosition, Workspace}
use Rattle.serial_order.specs.Laws.{Seen, SegmentIs, RootsAre, View}

module _ (defs : Defs) where
  -- the segment of a key in a main storage database, if both are there
  abbrev pub segment_in : ℕ → List ℕ → Db → Option (List ℕ)
  segment_in msdb key db = option_map_or (λ def. segment_of def (msdb_at db msdb) key) (slice_get defs.msdbs msdb) None

  -- what a state has at a resource
  abbrev pub seen_in : Resource → Db → Seen
  seen_in (Segment msdb key) db = SegmentIs (segment_in msdb key db)
  seen_in (Anchor dedb anchor) db = RootsAre (roots_at db dedb anchor)

  -- the fields of a main storage database
  abbrev pub fields_of : ℕ → List FieldDef
  fields_of msdb = option_map_or (λ def. def.fields) (slice_get defs.msdbs msdb) []

  -- a key is at least as long as the key field
  abbrev pub is_whole : ℕ → List ℕ → Bool
  is_whole msdb key = nat_le (key_length (fields_of msdb)) (length key)

  -- scripts ask field calls with whole keys
  abbrev pub is_call : Call → Bool
  is_call (call.Fld db key fsas) = is_whole db key
  is_call (call.Get get hold db ssas) = true
  is_call (call.Isrt db ssas bytes) = true
  is_call (call.Repl db bytes) = true
  is_call (call.Dlet db) = true

  abbrev pub is_whole_call : Deferred → Bool
  is_whole_call (Fld msdb key fsas) = is_whole msdb key
  is_whole_call (Repl msdb bytes) = true
  is_whole_call (Isrt msdb bytes) = true
  is_whole_call (Dlet msdb key) = true

  -- so the field calls that are queued have whole keys
  abbrev pub is_own : Workspace → Bool
  is_own own = list_all is_whole_call own.deferred

  -- a segment that a hold get found is relied on until the hold ends
  abbrev pub held_claim : ℕ → MsdbPosition → List Resource
  held_claim msdb p = if p.held then option_map_or (λ key. Segment msdb key ∷ []) p.key [] else []

  abbrev pub held_claims : ℕ → List MsdbPosition → List Resource
  held_claims msdb [] = []
  held_claims msdb (p ∷ ps) = held_claim msdb p ++ held_claims (msdb + 1) ps

  -- a segment that is replaced, inserted or deleted; those of field calls are locked at the sync point
  abbrev pub deferred_claim : Deferred → List Resource
  deferred_claim (Fld msdb key fsas) = []
  deferred_claim (Repl msdb bytes) = Segment msdb (key_of (fields_of msdb) bytes) ∷ []
  deferred_claim (Isrt msdb bytes) = Segment msdb (key_of (fields_of msdb) bytes) ∷ []
  deferred_claim (Dlet msdb key) = Segment msdb key ∷ []

  abbrev pub change_claim : AnchorChange → Resource
  change_claim c = Anchor c.dedb c.anchor

  abbrev pub insert_claim : SeqInsert → Resource
  insert_claim i = Anchor i.dedb i.anchor

  -- what a workspace relies on: segments held, replaced, inserted or deleted, anchors changed, and anchors of
  -- sequential inserts
  abbrev pub claims_of : Workspace → List Resource
  claims_of own =
      held_claims 0 own.msdbs ++ flat_map deferred_claim own.deferred
      ++ map change_claim own.changes ++ map insert_claim own.inserts

  abbrev pub view_of : View
  view_of = record { seen = seen_in; claims = claims_of; is_call = is_call; is_own = is_own }
