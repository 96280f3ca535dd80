-- What definitions keep: the rules and limits that every reader of them has tested.
use Rattle.std.specs.Prelude.{◌≡◌, ◌⊎◌, ⊤, ℕ, ◌+◌, ◌*◌, ◌-◌, ◌/◌, ◌<◌, ◌≤◌, ℤ, List, [], ◌∷◌, ◌++◌, length, map, take, drop, sum_by, flat_map, Bool, true, false, ◌&&◌, ◌==◌, nat_le, if◌then◌else◌, Some, None, Contains, IsTrue, IfSome, codes, slice_get}
use Rattle.std.specs.List.{AllByRecursion, IsDistinct, list_all}
use Rattle.fp_model.specs.declared.name.Name.{Name}
use Rattle.fp_model.specs.declared.definitions.FieldKind.{FieldKind}
use Rattle.fp_model.specs.declared.definitions.FieldKind.TheVariants.{C, X, H, F, P}
use Rattle.fp_model.specs.declared.definitions.FieldDef.{FieldDef}
use Rattle.fp_model.specs.declared.definitions.MsdbDef.{MsdbDef}
use Rattle.fp_model.specs.declared.definitions.SegDef.{SegDef}
use Rattle.fp_model.specs.declared.definitions.AreaDef.{AreaDef}
use Rattle.fp_model.specs.declared.definitions.DedbDef.{DedbDef}
use Rattle.fp_model.specs.declared.definitions.Defs.{Defs}
use Rattle.fp_model.specs.Texts.{same_text, is_printable}
use Rattle.fp_model.specs.Names.{IsName}
use Rattle.fp_model.specs.Numbers.{is_length_of, bytes_of}
use Rattle.fp_model.specs.State.{key_of, anchor_count}
use Rattle.fp_model.specs.Order.{child_types, line_to}

-- from the least to the greatest that is allowed
abbrev pub Between : ℕ → ℕ → ℕ → Type 0
Between low high n = (low ≤ n) × (n ≤ high)

abbrev pub AreDistinct : List Name → Type 0
AreDistinct names = IsDistinct same_text (map (λ name. name.0) names)

-- a name that isn't one of the words of the script language that this text is
abbrev pub IsOther : List ℕ → Name → Type 0
IsOther word name = same_text name.0 word ≡ false

-- ---- fields

abbrev pub is_field_length : FieldKind → ℕ → Bool
is_field_length C n = nat_le 1 n && nat_le n 1024
is_field_length X n = is_length_of X n
is_field_length H n = is_length_of H n
is_field_length F n = is_length_of F n
is_field_length P n = is_length_of P n

-- the fields stand one after another from a place on, without gaps, and end at another
abbrev pub StandFrom : ℕ → List FieldDef → ℕ → Type 0
StandFrom at [] end = end ≡ at
StandFrom at (f ∷ fs) end = (f.at ≡ at) × IsTrue (is_field_length f.kind f.length) × StandFrom (at + f.length) fs end

-- a field's name, which isn't IO, STATUS or FSAS
abbrev pub IsFieldName : Name → Type 0
IsFieldName name =
    IsName name × IsOther (codes "IO      ") name × IsOther (codes "STATUS  ") name × IsOther (codes "FSAS    ") name

-- 1 to 64 fields without gaps, with names of their own
pub record IsLayout (fields : List FieldDef) (end : ℕ) : Type 0 where
  pub count : Between 1 64 (length fields)
  pub stand : StandFrom 0 fields end
  pub names : AllByRecursion (λ f. IsFieldName f.name) fields
  pub distinct : AreDistinct (map (λ f. f.name) fields)

-- the first field is a key: characters, 1 to 64 bytes
abbrev pub BeginsWithKey : List FieldDef → Type 0
BeginsWithKey [] = ⊥
BeginsWithKey (f ∷ fs) = (f.kind ≡ C) × (f.length ≤ 64)

-- ---- main storage databases

-- what a field holds that was loaded: printable characters, or the preferred form of a number
abbrev pub IsLoadedField : FieldKind → List ℕ → Type 0
IsLoadedField C bytes = IsTrue (list_all is_printable bytes)
IsLoadedField kind bytes = (n : ℤ) × (bytes_of kind (length bytes) n ≡ Some bytes)

-- each field of a segment does, one behind another
abbrev pub AreLoadedFields : List FieldDef → List ℕ → Type 0
AreLoadedFields [] bytes = ⊤
AreLoadedFields (f ∷ fs) bytes = IsLoadedField f.kind (take f.length bytes) × AreLoadedFields fs (drop f.length bytes)

-- a segment that was loaded
pub record IsLoaded (def : MsdbDef) (segment : List ℕ) : Type 0 where
  pub whole : length segment ≡ def.length
  pub fields : AreLoadedFields def.fields segment

pub record IsMsdbDef (def : MsdbDef) : Type 0 where
  pub name : IsName def.name
  pub layout : IsLayout def.fields def.length
  pub key : BeginsWithKey def.fields
  pub short : def.length ≤ 1024
  pub loaded : AllByRecursion (IsLoaded def) def.load
  pub keys : IsDistinct same_text (map (key_of def.fields) def.load)

-- ---- data entry databases

-- a type below the root has an earlier parent; the sequential type is the second, below the root
abbrev pub HasPlace : ℕ → SegDef → Type 0
HasPlace place def =
    IfSome def.parent (λ parent. parent < place) × (def.parent ≡ None → place ≡ 0) × (place ≡ 0 → def.parent ≡ None)
    × (def.sequential ≡ true → (place ≡ 1) × (def.parent ≡ Some 0))

abbrev pub HavePlaces : ℕ → List SegDef → Type 0
HavePlaces place [] = ⊤
HavePlaces place (def ∷ defs) = HasPlace place def × HavePlaces (place + 1) defs

-- nothing has the sequential type as its parent
abbrev pub IsNoSequentialChild : List SegDef → SegDef → Type 0
IsNoSequentialChild types def =
    IfSome def.parent (λ parent. (p : SegDef) → slice_get types parent ≡ Some p → p.sequential ≡ false)

-- a type's name, which isn't KEY
abbrev pub IsTypeName : Name → Type 0
IsTypeName name = IsName name × IsOther (codes "KEY     ") name

pub record IsSegDef (types : List SegDef) (def : SegDef) : Type 0 where
  pub name : IsTypeName def.name
  pub layout : IsLayout def.fields def.length
  pub key : (def.sequential ≡ true) ⊎ BeginsWithKey def.fields
  pub parent : IsNoSequentialChild types def

abbrev pub has_sequential : List SegDef → Bool
has_sequential [] = false
has_sequential (def ∷ defs) = if def.sequential then true else has_sequential defs

-- up to a multiple of 4
abbrev pub in_fours : ℕ → ℕ
in_fours n = (n + 3) / 4 * 4

-- the bytes that a segment of a type has in an interval: an element's 4 bytes, a pointer to its twin, the newest serial
-- at a root that may have some, a pointer for each direct child type, and the segment; a sequential one has its serials
abbrev pub stored_length : List SegDef → ℕ → SegDef → ℕ
stored_length types place def =
    if def.sequential then 16 + def.length
    else in_fours
    (14 + (if place == 0 && has_sequential types then 8 else 0) + 10 * length (child_types types place) + def.length)

-- each segment fits into an empty interval
abbrev pub EachFits : ℕ → List SegDef → ℕ → List SegDef → Type 0
EachFits ci types place [] = ⊤
EachFits ci types place (def ∷ defs) = (stored_length types place def ≤ ci - 32) × EachFits ci types (place + 1) defs

-- at most so many levels
abbrev pub AllWithinLevels : List SegDef → ℕ → List SegDef → Type 0
AllWithinLevels types place [] = ⊤
AllWithinLevels types place (def ∷ defs) = (length (line_to types place) ≤ 4) × AllWithinLevels types (place + 1) defs

-- the intervals of the sequential part: those that its slots need
abbrev pub sequential_intervals : ℕ → List SegDef → ℕ → ℕ
sequential_intervals ci [] capacity = 0
sequential_intervals ci (def ∷ defs) capacity =
    if def.sequential then (let slots : ℕ = (ci - 32) / (16 + def.length) in (capacity + slots - 1) / slots) else
    sequential_intervals ci defs capacity

-- the intervals that an area is formatted with: control, its units of work, and the sequential part
abbrev pub formatted_intervals : DedbDef → AreaDef → ℕ
formatted_intervals def area =
    1 + area.uows * (area.base + area.overflow) + sequential_intervals def.ci def.segments area.capacity

-- a capacity stands exactly where there is a sequential type
abbrev pub HasCapacity : Bool → ℕ → Type 0
HasCapacity true capacity = Between 1 1000000 capacity
HasCapacity false capacity = capacity ≡ 0

pub record IsAreaDef (types : List SegDef) (area : AreaDef) : Type 0 where
  pub name : IsName area.name
  pub uows : Between 1 65536 area.uows
  pub base : Between 1 1000 area.base
  pub overflow : area.overflow ≤ 1000
  pub capacity : HasCapacity (has_sequential types) area.capacity
  pub copies : Between 1 7 area.copies

pub record IsDedbDef (def : DedbDef) : Type 0 where
  pub name : IsName def.name
  pub size : Contains (512 ∷ 1024 ∷ 2048 ∷ 4096 ∷ []) def.ci
  pub types : Between 1 15 (length def.segments)
  pub places : HavePlaces 0 def.segments
  pub each_type : AllByRecursion (IsSegDef def.segments) def.segments
  pub type_names : AreDistinct (map (λ s. s.name) def.segments)
  pub levels : AllWithinLevels def.segments 0 def.segments
  pub fits : EachFits def.ci def.segments 0 def.segments
  pub areas : Between 1 16 (length def.areas)
  pub each_area : AllByRecursion (IsAreaDef def.segments) def.areas
  pub anchors : anchor_count def ≤ 65536

-- ---- the whole

-- every group up to the greatest has a region
abbrev pub AreGroups : List ℕ → Type 0
AreGroups regions =
    AllByRecursion (Between 1 16) regions
    × ((group greatest : ℕ) → Contains regions greatest → 1 ≤ group → group ≤ greatest → Contains regions group)

-- Definitions that a reader may give.
pub record AreDefs (defs : Defs) : Type 0 where
  pub regions : Between 1 64 (length defs.regions)
  pub groups : AreGroups defs.regions
  pub log_group : Between 1 1000 defs.log_group
  pub pool : Between 1 100000 defs.pool
  pub tries : defs.tries ≤ 100
  pub msdbs : length defs.msdbs ≤ 32
  pub each_msdb : AllByRecursion IsMsdbDef defs.msdbs
  pub dedbs : length defs.dedbs ≤ 16
  pub each_dedb : AllByRecursion IsDedbDef defs.dedbs
  pub names : AreDistinct (map (λ d. d.name) defs.msdbs ++ map (λ d. d.name) defs.dedbs)
  pub area_names : AreDistinct (flat_map (λ d. map (λ a. a.name) d.areas) defs.dedbs)
  pub intervals : sum_by (λ d. sum_by (formatted_intervals d) d.areas) defs.dedbs ≤ 524288
  pub text : length defs.text ≤ 1000000
