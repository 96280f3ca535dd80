-- Databases: segments by key, anchors, areas, and the state before any transaction.
use Rattle.std.specs.Prelude.{ℕ, zero, suc, ◌+◌, ◌*◌, List, [], ◌∷◌, map, take, replicate, ◌++◌, sum_by, Bool, true, not, ◌&&◌, ◌==◌, nat_lt, nat_le, if◌then◌else◌, Option, Some, None, unwrap_or, find, filter, fold, slice_get, slice_set}
use Rattle.std.specs.Option.{option_map_or}
use Rattle.std.specs.Ordering.{nat_cmp, is_lt}
use Rattle.std.specs.Cmp.Lexicographic.{slice_cmp}
use Rattle.fp_model.specs.declared.definitions.FieldDef.{FieldDef}
use Rattle.fp_model.specs.declared.definitions.MsdbDef.{MsdbDef}
use Rattle.fp_model.specs.declared.definitions.AreaDef.{AreaDef}
use Rattle.fp_model.specs.declared.definitions.DedbDef.{DedbDef}
use Rattle.fp_model.specs.declared.definitions.Defs.{Defs}
use Rattle.fp_model.specs.declared.database.Root.{Root}
use Rattle.fp_model.specs.declared.database.AreaEnds.{AreaEnds}
use Rattle.fp_model.specs.declared.database.Dedb.{Dedb}
use Rattle.fp_model.specs.declared.database.Msdb.{Msdb}
use Rattle.fp_model.specs.declared.database.Db.{Db}
use Rattle.fp_model.specs.Texts.{same_text}

-- so many numbers from a given one on
abbrev pub numbers_up : ℕ → ℕ → List ℕ
numbers_up zero from = []
numbers_up (suc n) from = from ∷ numbers_up n (from + 1)

-- the length of the first field
abbrev pub key_length : List FieldDef → ℕ
key_length [] = 0
key_length (f ∷ fs) = f.length

-- the key of a segment: its first field
abbrev pub key_of : List FieldDef → List ℕ → List ℕ
key_of fields segment = take (key_length fields) segment

-- whether a key comes before another
abbrev pub is_below : List ℕ → List ℕ → Bool
is_below a b = is_lt (slice_cmp nat_cmp a b)

-- ---- lists in ascending order of keys

-- whether keys ascend, each below the next
abbrev pub ascend : List (List ℕ) → Bool
ascend [] = true
ascend (a ∷ []) = true
ascend (a ∷ b ∷ rest) = is_below a b && ascend (b ∷ rest)

-- with one more element, at the place that its key gives it
abbrev pub put_by_key : {X : Type 0} → (X → List ℕ) → X → List X → List X
put_by_key key x [] = x ∷ []
put_by_key key x (y ∷ ys) = if is_below (key x) (key y) then x ∷ y ∷ ys else y ∷ put_by_key key x ys

-- with the elements of a key changed
abbrev pub change_key : {X : Type 0} → (X → List ℕ) → List ℕ → (X → X) → List X → List X
change_key key k change xs = map (λ x. if same_text (key x) k then change x else x) xs

-- without the elements of a key
abbrev pub drop_key : {X : Type 0} → (X → List ℕ) → List ℕ → List X → List X
drop_key key k xs = filter (λ x. not (same_text (key x) k)) xs

-- ---- main storage databases

-- the segment of a key
abbrev pub segment_of : MsdbDef → Msdb → List ℕ → Option (List ℕ)
segment_of def msdb key = find (λ segment. same_text (key_of def.fields segment) key) msdb.segments

-- the first segment with a greater key, or the first of all
abbrev pub segment_after : MsdbDef → Msdb → Option (List ℕ) → Option (List ℕ)
segment_after def msdb None = slice_get msdb.segments 0
segment_after def msdb (Some key) = find (λ segment. is_below key (key_of def.fields segment)) msdb.segments

-- with this segment in place of that of its key, or beside the others
abbrev pub with_segment : MsdbDef → List ℕ → Msdb → Msdb
with_segment def segment msdb =
    let key : List ℕ → List ℕ = key_of def.fields in
    record { segments = put_by_key key segment (drop_key key (key segment) msdb.segments) }

-- without the segment of a key
abbrev pub without_segment : MsdbDef → List ℕ → Msdb → Msdb
without_segment def key msdb = record { segments = drop_key (key_of def.fields) key msdb.segments }

-- ---- data entry databases

-- the anchors of an area: one for each base interval
abbrev pub anchors_in : AreaDef → ℕ
anchors_in area = area.uows * area.base

-- the anchors of a database, counted through its areas
abbrev pub anchor_count : DedbDef → ℕ
anchor_count def = sum_by anchors_in def.areas

-- an area of the installation: its database, its number there, the anchors before it, and its definition
pub record Area : Type 0 where
  pub dedb : ℕ
  pub number : ℕ
  pub first_anchor : ℕ
  pub def : AreaDef

-- the data set of the first area; the others follow, in order of definition
abbrev pub first_area_set : ℕ
first_area_set = 3

-- the areas of a database from a given one on, behind so many anchors
abbrev pub areas_from : ℕ → ℕ → ℕ → List AreaDef → List Area
areas_from dedb number before [] = []
areas_from dedb number before (a ∷ others) =
    record { dedb = dedb; number = number; first_anchor = before; def = a }
    ∷ areas_from dedb (number + 1) (before + anchors_in a) others

abbrev pub areas_of_all : ℕ → List DedbDef → List Area
areas_of_all dedb [] = []
areas_of_all dedb (d ∷ ds) = areas_from dedb 0 0 d.areas ++ areas_of_all (dedb + 1) ds

-- all areas in order of definition, as their data sets are numbered
abbrev pub areas_of : Defs → List Area
areas_of defs = areas_of_all 0 defs.dedbs

-- whether an anchor of a database lies in the area
abbrev pub has_anchor : Area → ℕ → ℕ → Bool
has_anchor area dedb anchor =
    area.dedb == dedb && nat_le area.first_anchor anchor && nat_lt anchor (area.first_anchor + anchors_in area.def)

-- the roots of an anchor
abbrev pub roots_at : Db → ℕ → ℕ → List Root
roots_at db dedb anchor = option_map_or (λ d. unwrap_or (slice_get d.anchors anchor) []) (slice_get db.dedbs dedb) []

-- with other roots at an anchor
abbrev pub with_roots : ℕ → ℕ → List Root → Db → Db
with_roots dedb anchor roots db =
    let changed : Dedb → Dedb = λ d. record d { anchors = slice_set d.anchors anchor roots } in
    record db { dedbs = option_map_or (λ d. slice_set db.dedbs dedb (changed d)) (slice_get db.dedbs dedb) db.dedbs }

-- ---- the start

-- the segments that the definitions load, by key
abbrev pub loaded : MsdbDef → Msdb
loaded def =
    record { segments = fold (λ segments segment. put_by_key (key_of def.fields) segment segments) [] def.load }

-- the ends of a sequential part that never had a segment
abbrev pub first_ends : AreaEnds
first_ends = record { begin = 1; end = 1 }

-- no roots, and no sequential dependents
abbrev pub formatted : DedbDef → Dedb
formatted def = record { anchors = replicate (anchor_count def) []; areas = map (λ area. first_ends) def.areas }

-- the state before any transaction
abbrev pub start : Defs → Db
start defs = record { msdbs = map loaded defs.msdbs; dedbs = map formatted defs.dedbs }
