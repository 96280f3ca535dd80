-- Calls to a data entry database. The transaction sees its own direct changes, and not its own sequential inserts.
use Rattle.std.specs.Prelude.{ℕ, ◌-◌, List, [], ◌∷◌, ◌++◌, length, map, codes, Bool, true, false, not, ◌&&◌, ◌||◌, ◌==◌, nat_lt, if◌then◌else◌, Option, Some, None, is_some, option_map, unwrap_or, option_and_then, slice_get, slice_set, find, filter, take}
use Rattle.std.specs.List.{list_all}
use Rattle.std.specs.Option.{option_map_or}
use Rattle.fp_model.specs.declared.definitions.DedbDef.{DedbDef}
use Rattle.fp_model.specs.declared.database.Db.{Db}
use Rattle.fp_model.specs.declared.database.Root.{Root}
use Rattle.fp_model.specs.declared.calls.AnchorChange.{AnchorChange}
use Rattle.fp_model.specs.declared.calls.Call.{Call}
use Rattle.fp_model.specs.declared.calls.Call.TheVariants as call
use Rattle.fp_model.specs.declared.calls.Get.{Get}
use Rattle.fp_model.specs.declared.calls.Get.TheVariants as get
use Rattle.fp_model.specs.declared.calls.Mode.{Mode}
use Rattle.fp_model.specs.declared.calls.Mode.TheVariants.{Share, Exclusive}
use Rattle.fp_model.specs.declared.calls.Resource.{Resource}
use Rattle.fp_model.specs.declared.calls.Resource.TheVariants.{Anchor}
use Rattle.fp_model.specs.declared.calls.SeqInsert.{SeqInsert}
use Rattle.fp_model.specs.declared.calls.Ssa.{Ssa}
use Rattle.fp_model.specs.Texts.{same_text}
use Rattle.fp_model.specs.State.{numbers_up, anchor_count, roots_at}
use Rattle.fp_model.specs.Exits.{anchor_of}
use Rattle.fp_model.specs.Order.{Step, Occurrence, Place, direct, key_in, is_sequential, line_to, is_ancestor, first_admitted, bytes_at, edited, Edit, Inserts, Replaces, Deletes}
use Rattle.fp_model.specs.Workspace.{DedbPosition, no_dedb_position, put_change, Workspace}
use Rattle.fp_model.specs.Answers.{Replied, Needed, answered, showing, blank, serves, unless_held}

abbrev pub is_qualified : Ssa → Bool
is_qualified ssa = is_some ssa.key

-- the last step of a path
abbrev pub end_of : Step → List Step → Step
end_of s [] = s
end_of s (t ∷ ts) = end_of t ts

abbrev pub last_step : List Step → Option Step
last_step [] = None
last_step (s ∷ ss) = Some (end_of s ss)

-- all but the last
abbrev pub parents_in : List Step → List Step
parents_in path = take (length path - 1) path

-- the first anchor at which something is found, with it
abbrev pub first_found : (ℕ → Option Occurrence) → List ℕ → Option (ℕ × Occurrence)
first_found look [] = None
first_found look (anchor ∷ anchors) = option_map_or (λ s. Some (anchor, s)) (look anchor) (first_found look anchors)

-- the first anchor that a search comes to without its lock
abbrev pub first_unlocked : (ℕ → Bool) → (ℕ → Option Occurrence) → List ℕ → Option ℕ
first_unlocked is_locked look [] = None
first_unlocked is_locked look (anchor ∷ anchors) =
    if not (is_locked anchor) then Some anchor
    else if is_some (look anchor) then None
    else first_unlocked is_locked look anchors

module _ (def : DedbDef) (dedb : ℕ) where
  -- ---- the workspace

  abbrev pub is_change_of : ℕ → AnchorChange → Bool
  is_change_of anchor c = c.dedb == dedb && c.anchor == anchor

  -- the roots of an anchor, as the transaction has changed them
  abbrev pub roots_seen : Db → Workspace → ℕ → List Root
  roots_seen db own anchor =
      option_map_or (λ c. c.roots) (find (is_change_of anchor) own.changes) (roots_at db dedb anchor)

  abbrev pub change_at : ℕ → List Root → AnchorChange
  change_at anchor roots = record { dedb = dedb; anchor = anchor; roots = roots }

  abbrev pub with_change : ℕ → List Root → Workspace → Workspace
  with_change anchor roots own = record own { changes = put_change (change_at anchor roots) own.changes }

  abbrev pub position_of : Workspace → DedbPosition
  position_of own = unwrap_or (slice_get own.dedbs dedb) no_dedb_position

  abbrev pub with_position : DedbPosition → Workspace → Workspace
  with_position p own = record own { dedbs = slice_set own.dedbs dedb p }

  -- Every answered call ends the hold.
  abbrev pub hold_ended : Workspace → Workspace
  hold_ended own = with_position (record (position_of own) { held = false }) own

  abbrev pub refused : Workspace → List ℕ → Replied
  refused own status = record { answer = answered status; own = hold_ended own }

  -- ---- gets

  -- each type that the arguments name stands below the one before
  abbrev pub are_descending : List Ssa → Bool
  are_descending [] = true
  are_descending (a ∷ []) = true
  are_descending (a ∷ b ∷ rest) = is_ancestor def.segments a.segment b.segment && are_descending (b ∷ rest)

  -- The arguments name types on one line downwards, each at most once, and give the sequential type no key.
  abbrev pub are_get_arguments : List Ssa → Bool
  are_get_arguments ssas =
      are_descending ssas && list_all (λ a. not (is_qualified a && is_sequential def.segments a.segment)) ssas

  -- the key of the root, where the arguments give it
  abbrev pub root_named : List Ssa → Option (List ℕ)
  root_named ssas = option_and_then (λ a. if a.segment == 0 then a.key else None) (slice_get ssas 0)

  abbrev pub anchors_up : ℕ → List ℕ
  anchors_up from = numbers_up (anchor_count def - from) from

  abbrev pub anchor_at : Option Place → ℕ
  anchor_at place = option_map_or (λ p. p.anchor) place 0

  -- the anchors that a get looks at, in order, until it finds
  abbrev pub anchors_searched : DedbPosition → Get → Option (List ℕ) → List ℕ
  anchors_searched p get.Unique None = anchors_up 0
  anchors_searched p get.Unique (Some key) = anchor_of def key ∷ []
  anchors_searched p get.Next None = anchors_up (anchor_at p.place)
  anchors_searched p get.Next (Some key) =
      if nat_lt (anchor_of def key) (anchor_at p.place) then [] else anchor_of def key ∷ []
  anchors_searched p get.NextInParent None = anchor_at p.parent ∷ []
  anchors_searched p get.NextInParent (Some key) = anchor_of def key ∷ []

  -- the place that a get begins behind
  abbrev pub begins_behind : DedbPosition → Get → Option Place
  begins_behind p get.Unique = None
  begins_behind p get.Next = p.place
  begins_behind p get.NextInParent = p.place

  -- the parent that a get stays below
  abbrev pub stays_below : DedbPosition → Get → Option Place
  stays_below p get.Unique = None
  stays_below p get.Next = None
  stays_below p get.NextInParent = p.parent

  -- what a get finds at an anchor
  abbrev pub look_at : Db → Workspace → Get → List Ssa → ℕ → Option Occurrence
  look_at db own get ssas anchor =
      let p : DedbPosition = position_of own in
      first_admitted def.segments anchor (roots_seen db own anchor) (begins_behind p get) (stays_below p get) ssas

  abbrev pub not_found : Get → List Ssa → List ℕ
  not_found get.Unique ssas = codes "GE"
  not_found get.Next ssas = if list_all (λ a. not (is_qualified a)) ssas then codes "GB" else codes "GE"
  not_found get.NextInParent ssas = codes "GE"

  -- GU and GN set the parent too
  abbrev pub parent_after : Get → Option Place → Place → Option Place
  parent_after get.Unique before place = Some place
  parent_after get.Next before place = Some place
  parent_after get.NextInParent before place = before

  abbrev pub type_of_path : List Step → ℕ
  type_of_path path = option_map_or (λ s. s.segment) (last_step path) 0

  abbrev pub found_or : List ℕ → Get → Bool → Workspace → Option (ℕ × Occurrence) → Replied
  found_or status get hold own None = refused own status
  found_or status get hold own (Some found) =
      let place : Place = record { anchor = found.0; path = found.1.path } in
      let parent : Option Place = parent_after get (position_of own).parent place in
      record {
        answer = showing (type_of_path found.1.path) found.1.bytes;
        own = with_position (record { place = Some place; parent = parent; held = hold }) own;
      }

  -- a get below a parent, where there is none
  abbrev pub lacks_parent : Workspace → Get → Bool
  lacks_parent own get.Unique = false
  lacks_parent own get.Next = false
  lacks_parent own get.NextInParent = not (is_some (position_of own).parent)

  abbrev pub get_reply : Db → Workspace → Get → Bool → List Ssa → Replied
  get_reply db own get hold ssas =
      if not (are_get_arguments ssas) then refused own (codes "AM")
      else if lacks_parent own get then refused own (codes "GP")
      else found_or (not_found get ssas) get hold own
      (first_found (look_at db own get ssas) (anchors_searched (position_of own) get (root_named ssas)))

  -- ---- ISRT

  -- qualified up to the last, which isn't
  abbrev pub only_last_unqualified : List Ssa → Bool
  only_last_unqualified [] = false
  only_last_unqualified (a ∷ []) = not (is_qualified a)
  only_last_unqualified (a ∷ b ∷ rest) = is_qualified a && only_last_unqualified (b ∷ rest)

  abbrev pub type_of_last : List Ssa → ℕ
  type_of_last [] = 0
  type_of_last (a ∷ []) = a.segment
  type_of_last (a ∷ b ∷ rest) = type_of_last (b ∷ rest)

  -- The arguments name each parent of the new type by its key, from the root down, and last the type.
  abbrev pub are_insert_arguments : List Ssa → Bool
  are_insert_arguments ssas =
      only_last_unqualified ssas && same_text (map (λ a. a.segment) ssas) (line_to def.segments (type_of_last ssas))

  -- a step for each argument, the last with the key that the new segment begins with
  abbrev pub insert_path : List Ssa → List ℕ → List Step
  insert_path ssas bytes = map (λ a. direct a.segment (unwrap_or a.key (key_in def.segments a.segment bytes))) ssas

  abbrev pub root_key_of : List Step → List ℕ
  root_key_of path = option_map_or (λ s. s.key) (slice_get path 0) []

  abbrev pub anchor_of_path : List Step → ℕ
  anchor_of_path path = anchor_of def (root_key_of path)

  abbrev pub stands_at : List Root → List Step → Bool
  stands_at roots [] = true
  stands_at roots (s ∷ ss) = is_some (bytes_at def.segments roots (s ∷ ss))

  -- a sequential dependent waits for the commit step
  abbrev pub seq_insert : List Step → List ℕ → SeqInsert
  seq_insert path bytes = record { dedb = dedb; anchor = anchor_of_path path; key = root_key_of path; bytes = bytes }

  abbrev pub inserted : List Root → Workspace → List Step → List ℕ → Replied
  inserted roots own path bytes =
      let anchor : ℕ = anchor_of_path path in
      let place : Place = record { anchor = anchor; path = path } in
      record {
        answer = answered blank;
        own = with_position (record { place = Some place; parent = (position_of own).parent; held = false })
            (with_change anchor (edited def.segments roots path (Inserts bytes)) own);
      }

  abbrev pub queued_insert : Workspace → List Step → List ℕ → Replied
  queued_insert own path bytes =
      let inserts : List SeqInsert = own.inserts ++ seq_insert path bytes ∷ [] in
      record { answer = answered blank; own = record (hold_ended own) { inserts = inserts } }

  abbrev pub isrt_at : List Root → Workspace → ℕ → List Step → List ℕ → Replied
  isrt_at roots own type path bytes =
      if not (stands_at roots (parents_in path)) then refused own (codes "GE")
      else if is_sequential def.segments type then queued_insert own path bytes
      else if stands_at roots path then refused own (codes "II")
      else inserted roots own path bytes

  abbrev pub isrt_reply : Db → Workspace → List Ssa → List ℕ → Replied
  isrt_reply db own ssas bytes =
      let path : List Step = insert_path ssas bytes in
      if are_insert_arguments ssas
      then isrt_at (roots_seen db own (anchor_of_path path)) own (type_of_last ssas) path bytes
      else refused own (codes "AM")

  -- ---- REPL and DLET

  -- the place that is held, if the last call to the database was a hold get that found it
  abbrev pub held_place : Workspace → Option Place
  held_place own = if (position_of own).held then (position_of own).place else None

  abbrev pub edit_at : Db → Workspace → Place → Edit → Workspace
  edit_at db own place edit =
      with_change place.anchor (edited def.segments (roots_seen db own place.anchor) place.path edit) (hold_ended own)

  abbrev pub key_of_path : List Step → List ℕ
  key_of_path path = option_map_or (λ s. s.key) (last_step path) []

  abbrev pub repl_reply : Db → Workspace → List ℕ → Option Place → Replied
  repl_reply db own bytes None = refused own (codes "DJ")
  repl_reply db own bytes (Some place) =
      let type : ℕ = type_of_path place.path in
      if is_sequential def.segments type then refused own (codes "AM")
      else if same_text (key_in def.segments type bytes) (key_of_path place.path)
      then record { answer = answered blank; own = edit_at db own place (Replaces bytes) }
      else refused own (codes "DA")

  -- the path names a root, and the insert is of a dependent of it
  abbrev pub goes_with : Place → SeqInsert → Bool
  goes_with place i =
      length place.path == 1 && i.dedb == dedb && i.anchor == place.anchor && same_text i.key (root_key_of place.path)

  -- the segment goes with all below it, and the parent is forgotten
  abbrev pub deleted : Db → Workspace → Place → Workspace
  deleted db own place =
      let after : Workspace = edit_at db own place Deletes in
      with_position (record (position_of after) { parent = None })
      (record after { inserts = filter (λ i. not (goes_with place i)) own.inserts })

  abbrev pub dlet_reply : Db → Workspace → Option Place → Replied
  dlet_reply db own None = refused own (codes "DJ")
  dlet_reply db own (Some place) =
      if is_sequential def.segments (type_of_path place.path) then refused own (codes "AM")
      else record { answer = answered blank; own = deleted db own place }

  -- ---- the answer to a call, and the lock that it needs first

  abbrev pub dedb_reply : Db → Workspace → Call → Replied
  dedb_reply db own (call.Get get hold n ssas) = get_reply db own get hold ssas
  dedb_reply db own (call.Fld n key fsas) = refused own (codes "AM")
  dedb_reply db own (call.Isrt n ssas bytes) = isrt_reply db own ssas bytes
  dedb_reply db own (call.Repl n bytes) = repl_reply db own bytes (held_place own)
  dedb_reply db own (call.Dlet n) = dlet_reply db own (held_place own)

  abbrev pub lock_of : Bool → Mode
  lock_of true = Exclusive
  lock_of false = Share

  abbrev pub anchor_lock : Mode → ℕ → Needed
  anchor_lock mode anchor = record { resource = Anchor dedb anchor; mode = mode }

  abbrev pub unless_locked : (Resource → Option Mode) → Mode → ℕ → Option Needed
  unless_locked held mode anchor = unless_held held (anchor_lock mode anchor)

  abbrev pub get_need : Db → Workspace → (Resource → Option Mode) → Get → Bool → List Ssa → Option Needed
  get_need db own held get hold ssas =
      if not (are_get_arguments ssas) || lacks_parent own get then None
      else option_map (anchor_lock (lock_of hold))
      (first_unlocked (λ anchor. serves (held (Anchor dedb anchor)) (lock_of hold)) (look_at db own get ssas)
      (anchors_searched (position_of own) get (root_named ssas)))

  -- the anchor of the segment that is held
  abbrev pub held_need : (Resource → Option Mode) → Option Place → Option Needed
  held_need held None = None
  held_need held (Some place) = unless_locked held Exclusive place.anchor

  abbrev pub dedb_need : Db → Workspace → (Resource → Option Mode) → Call → Option Needed
  dedb_need db own held (call.Get get hold n ssas) = get_need db own held get hold ssas
  dedb_need db own held (call.Fld n key fsas) = None
  dedb_need db own held (call.Isrt n ssas bytes) =
      if are_insert_arguments ssas then unless_locked held Exclusive (anchor_of_path (insert_path ssas bytes)) else None
  dedb_need db own held (call.Repl n bytes) = held_need held (held_place own)
  dedb_need db own held (call.Dlet n) = held_need held (held_place own)
