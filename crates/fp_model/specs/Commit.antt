-- The sync point: what a workspace makes of the state, and what a Purge makes of it.
use Rattle.std.specs.Prelude.{ℕ, ◌+◌, ◌-◌, ◌^◌, List, [], ◌∷◌, ◌++◌, length, map, filter, find, fold, take, drop, min, Bool, not, ◌&&◌, ◌||◌, nat_lt, nat_le, if◌then◌else◌, Option, Some, None, unwrap_or, slice_get, slice_set}
use Rattle.std.specs.Option.{option_map_or}
use Rattle.fp_model.specs.declared.definitions.Defs.{Defs}
use Rattle.fp_model.specs.declared.definitions.SegDef.{SegDef}
use Rattle.fp_model.specs.declared.database.AreaEnds.{AreaEnds}
use Rattle.fp_model.specs.declared.database.Db.{Db}
use Rattle.fp_model.specs.declared.database.Dedb.{Dedb}
use Rattle.fp_model.specs.declared.database.Msdb.{Msdb}
use Rattle.fp_model.specs.declared.database.Root.{Root}
use Rattle.fp_model.specs.declared.database.SeqItem.{SeqItem}
use Rattle.fp_model.specs.declared.calls.AnchorChange.{AnchorChange}
use Rattle.fp_model.specs.declared.calls.Mode.{Mode}
use Rattle.fp_model.specs.declared.calls.Mode.TheVariants.{Exclusive}
use Rattle.fp_model.specs.declared.calls.Resource.{Resource}
use Rattle.fp_model.specs.declared.calls.SeqInsert.{SeqInsert}
use Rattle.fp_model.specs.State.{Area, anchors_in, areas_of, change_key, first_area_set, first_ends, has_anchor, with_roots}
use Rattle.fp_model.specs.Settle.{Settled, Stands, VerifyFails, settle, resources}
use Rattle.fp_model.specs.Order.{root_key}
use Rattle.fp_model.specs.Workspace.{Workspace}
use Rattle.fp_model.specs.Answers.{serves}

-- what the sync point comes to: a new state, the verify that fails, or the sequential part that is too full
pub data Settlement : Type 0 where
  Commits : Db → Settlement
  FailsVerify : (call fsa : ℕ) (found : List ℕ) → Settlement
  FillsPart : (set begin end n : ℕ) → Settlement

-- ---- areas

-- the ends of an area
abbrev pub ends_at : Db → Area → AreaEnds
ends_at db area =
    option_map_or (λ d. unwrap_or (slice_get d.areas area.number) first_ends) (slice_get db.dedbs area.dedb) first_ends

-- with a data entry database changed
abbrev pub with_dedb : ℕ → (Dedb → Dedb) → Db → Db
with_dedb dedb change db =
    record db { dedbs = option_map_or (λ d. slice_set db.dedbs dedb (change d)) (slice_get db.dedbs dedb) db.dedbs }

-- with other ends
abbrev pub with_ends : Area → AreaEnds → Db → Db
with_ends area ends db = with_dedb area.dedb (λ d. record d { areas = slice_set d.areas area.number ends }) db

-- whether an area takes a sequential insert
abbrev pub takes : Area → SeqInsert → Bool
takes area i = has_anchor area i.dedb i.anchor

-- the area has no room for so many more: past its capacity, or past the last serial
abbrev pub is_too_full : ℕ → AreaEnds → ℕ → Bool
is_too_full capacity ends n = nat_lt capacity (ends.end - ends.begin + n) || nat_lt (2 ^ 62) (ends.end + n)

-- the first area, in order of definition, that takes inserts and is too full for them
abbrev pub first_full : Db → List SeqInsert → ℕ → List Area → Option Settlement
first_full db inserts set [] = None
first_full db inserts set (area ∷ areas) =
    let n : ℕ = length (filter (takes area) inserts) in
    let ends : AreaEnds = ends_at db area in
    if nat_lt 0 n && is_too_full area.def.capacity ends n
    then Some (FillsPart set ends.begin ends.end n)
    else first_full db inserts (set + 1) areas

-- ---- what a commit changes in data entry databases

-- the changed anchors
abbrev pub with_anchors : List AnchorChange → Db → Db
with_anchors changes db = fold (λ state c. with_roots c.dedb c.anchor c.roots state) db changes

abbrev pub types_of : Defs → ℕ → List SegDef
types_of defs dedb = option_map_or (λ def. def.segments) (slice_get defs.dedbs dedb) []

-- a sequential dependent in front of those of its root
abbrev pub with_newest : SeqItem → Root → Root
with_newest item root = record root { seqs = item ∷ root.seqs }

-- the same at its root, in the database
abbrev pub with_dependent : Defs → SeqInsert → SeqItem → Db → Db
with_dependent defs i item db =
    let key : Root → List ℕ = root_key (types_of defs i.dedb) in
    let changed : Dedb → Dedb = λ d. record d {
      anchors =
          option_map_or (λ roots. slice_set d.anchors i.anchor (change_key key i.key (with_newest item) roots))
          (slice_get d.anchors i.anchor) d.anchors;
    } in
    with_dedb i.dedb changed db

-- the insert gets the serial at its area's end, and the end moves on
abbrev pub numbered_at : Defs → SeqInsert → Area → Db → Db
numbered_at defs i area db =
    let ends : AreaEnds = ends_at db area in
    let item : SeqItem = record { serial = ends.end; bytes = i.bytes } in
    with_ends area (record ends { end = ends.end + 1 }) (with_dependent defs i item db)

abbrev pub with_insert : Defs → Db → SeqInsert → Db
with_insert defs db i =
    option_map_or (λ area. numbered_at defs i area db) (find (λ area. takes area i) (areas_of defs)) db

-- the sequential inserts, in call order
abbrev pub with_inserts : Defs → List SeqInsert → Db → Db
with_inserts defs inserts db = fold (with_insert defs) db inserts

-- ---- the sync point

abbrev pub with_msdbs : List Msdb → Db → Db
with_msdbs msdbs db = record db { msdbs = msdbs }

-- all that the workspace holds, done to the state
abbrev pub committed : Defs → Workspace → List Msdb → Db → Db
committed defs own msdbs db = with_inserts defs own.inserts (with_anchors own.changes (with_msdbs msdbs db))

abbrev pub settled_to : Defs → Db → Workspace → Settled → Settlement
settled_to defs db own (VerifyFails call fsa found) = FailsVerify call fsa found
settled_to defs db own (Stands msdbs) =
    unwrap_or (first_full db own.inserts first_area_set (areas_of defs)) (Commits (committed defs own msdbs db))

-- The queue is settled first; then the sequential inserts of each area are counted.
unfoldable pub settlement : Defs → Db → Workspace → Settlement
settlement defs db own = settled_to defs db own (settle defs.msdbs db.msdbs own.deferred)

-- the first segment of a queued field call that isn't held Exclusive
unfoldable pub lacking : Workspace → (Resource → Option Mode) → Option Resource
lacking own held = find (λ r. not (serves (held r) Exclusive)) (resources own.deferred)

-- ---- Purge

-- only the sequential dependents with serials from begin on
abbrev pub kept_from : ℕ → Root → Root
kept_from begin root = record root { seqs = filter (λ item. nat_le begin item.serial) root.seqs }

-- the anchors of an area changed, the others as they are
abbrev pub in_anchors : {X : Type 0} → Area → (X → X) → List X → List X
in_anchors area change anchors =
    let own : ℕ = anchors_in area.def in
    take area.first_anchor anchors ++ map change (take own (drop area.first_anchor anchors))
    ++ drop (area.first_anchor + own) anchors

-- begin moves up by n, at most to the end, and older serials leave their roots
abbrev pub purged_area : Area → ℕ → Db → Db
purged_area area n db =
    let ends : AreaEnds = ends_at db area in
    let begin : ℕ = min ends.end (ends.begin + n) in
    let changed : Dedb → Dedb = λ d. record d { anchors = in_anchors area (map (kept_from begin)) d.anchors } in
    with_ends area (record ends { begin = begin }) (with_dedb area.dedb changed db)

-- the area of a data set
abbrev pub area_of_set : Defs → ℕ → Option Area
area_of_set defs set = if nat_lt set first_area_set then None else slice_get (areas_of defs) (set - first_area_set)

-- the state after a Purge of a data set; None where it isn't an area with a sequential part
unfoldable pub purged : Defs → ℕ → ℕ → Db → Option Db
purged defs set n db =
    option_map_or (λ area. if nat_lt 0 area.def.capacity then Some (purged_area area n db) else None)
    (area_of_set defs set) None
