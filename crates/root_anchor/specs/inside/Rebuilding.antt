-- How an anchor's segments are built anew: which elements they had, which they have, and what stays.
use Rattle.std.specs.Prelude.{◌≡◌, ◌⊎◌, ℕ, ◌<◌, List, [], ◌∷◌, ◌++◌, length, map, flat_map, Contains, false, slice_get, Option, Some, None, IfSome, ⊤}
use Rattle.ci_space.specs.declared.intervals.Shape.{Shape}
use Rattle.ci_space.specs.Interval.{HasUsed, IsUsed, HasRoom}
use Rattle.ci_overflow.specs.Lists.{bytes_at, IsInOrder, IsInPlace}
use Rattle.ci_overflow.specs.Places.{base_of}
use Rattle.ci_overflow.specs.Rooms.{IsOwnRoom, KeepsKinds, KeepsRoots}
use Rattle.ci_space.specs.Head.{head_of}
use Rattle.fp_model.specs.declared.definitions.SegDef.{SegDef}
use Rattle.fp_model.specs.declared.database.Node.{Node}
use Rattle.fp_model.specs.declared.database.Node.TheOpen.{Node-F}
use Rattle.fp_model.specs.declared.database.Node.TheFolds.{fold-Node}
use Rattle.fp_model.specs.declared.database.Root.{Root}
use Rattle.fp_model.specs.Order.{child_types}
use Rattle.anchor_elements.specs.Elements.{Pointer, HasSegment, content_length}
use Rattle.root_anchor.specs.Chains.{AreRows, AreRoots}
use Rattle.root_anchor.specs.Stored.{KeepsSequential}
use Rattle.root_anchor.specs.inside.Standing.{places_of}
use Rattle.root_anchor.specs.inside.Puts.{PutsRoot}
use Rattle.root_anchor.specs.declared.plan.Planned.{Planned}
use Rattle.root_anchor.specs.declared.standing.Standing.{Standing}

-- each of these once
abbrev pub AreApart : List Pointer → Type 0
AreApart [] = ⊤
AreApart (at ∷ rest) = (¬ Contains rest at) × AreApart rest

-- The elements `had` give way to the elements `has`: every other used element stays, and none comes; an element that
-- comes was none before. Root anchor points stay, and each interval is of its kind still. An area that was in order is
-- so again, and its sequential part stays.
pub record Exchanges (shape : Shape) (old new : List (List ℕ)) (had has : List Pointer) : Type 0 where
  pub stay : (at : Pointer) (type : ℕ) (content : List ℕ) → ¬ Contains had at
      → HasUsed (bytes_at old at.0) at.1 type content → HasUsed (bytes_at new at.0) at.1 type content
  pub none_comes : (at : Pointer) (type : ℕ) (content : List ℕ) → ¬ Contains has at
      → HasUsed (bytes_at new at.0) at.1 type content
      → (¬ Contains had at) × HasUsed (bytes_at old at.0) at.1 type content
  pub fresh : (at : Pointer) → Contains has at → Contains had at ⊎ (¬ IsUsed (bytes_at old at.0) at.1)
  pub used : (at : Pointer) → Contains has at → IsUsed (bytes_at new at.0) at.1
  pub once : AreApart has
  pub roots : KeepsRoots old new
  pub kinds : KeepsKinds old new
  pub in_order : IsInOrder shape old → IsInOrder shape new
  pub sequential : IsInOrder shape old → KeepsSequential shape old new

-- ---- places that are reserved for segments

-- the places of a plan, without the segments that have none yet
abbrev pub and_place : Option Pointer → List Pointer → List Pointer
and_place None places = places
and_place (Some at) places = at ∷ places

abbrev pub reserved : List Planned → List Pointer
reserved [] = []
reserved (p ∷ plan) = and_place p.at (reserved plan)

abbrev pub types_of : List Planned → List ℕ
types_of plan = map (λ p. p.segment) plan

-- a place that is planned for a type is a used element with room for it
abbrev pub HaveRoom : List SegDef → List (List ℕ) → ℕ → Option Pointer → Type 0
HaveRoom types area type planned = IfSome planned (λ at. HasRoom (bytes_at area at.0) at.1 (content_length types type))

abbrev pub HaveRooms : List SegDef → List (List ℕ) → List Planned → Type 0
HaveRooms types area [] = ⊤
HaveRooms types area (p ∷ plan) = HaveRoom types area p.segment p.at × HaveRooms types area plan

-- each segment of a plan has a place
pub record IsPlaced (p : Planned) : Type 0 where
  pub place : Pointer
  pub is_place : p.at ≡ Some place

abbrev pub ArePlaced : List Planned → Type 0
ArePlaced [] = ⊤
ArePlaced (p ∷ plan) = IsPlaced p × ArePlaced plan

-- places reserved, each for one segment
pub record AreReserved (types : List SegDef) (area : List (List ℕ)) (plan : List Planned) : Type 0 where
  pub rooms : HaveRooms types area plan
  pub once : AreApart (reserved plan)

-- ---- the types of segments, in hierarchical order

abbrev pub types_in_rows : List ℕ → List (List (ℕ → List ℕ)) → List ℕ
types_in_rows [] rows = []
types_in_rows (type ∷ more) [] = []
types_in_rows (type ∷ more) (row ∷ rows) = flat_map (λ node. node type) row ++ types_in_rows more rows

abbrev pub types_step : List SegDef → Node-F (ℕ → List ℕ) → ℕ → List ℕ
types_step types node type = type ∷ types_in_rows (child_types types type) node.children

-- of a segment and all below it
abbrev pub types_below : List SegDef → Node → ℕ → List ℕ
types_below types = fold-Node (ℕ → List ℕ) (types_step types)

abbrev pub types_of_row : List SegDef → ℕ → List Node → List ℕ
types_of_row types type row = flat_map (λ node. node type) (map (types_below types) row)

abbrev pub types_of_rows : List SegDef → List ℕ → List (List Node) → List ℕ
types_of_rows types kinds rows = types_in_rows kinds (map (map (types_below types)) rows)

-- of a segment that has these rows below it
abbrev pub types_of_segment : List SegDef → ℕ → List (List Node) → List ℕ
types_of_segment types type rows = type ∷ types_of_rows types (child_types types type) rows

abbrev pub types_of_roots : List SegDef → List Root → List ℕ
types_of_roots types roots = flat_map (λ root. types_of_segment types 0 root.children) roots

-- ---- segments that stand

-- the elements met where these are met after others, the last first
abbrev pub met_after : List Pointer → List Pointer → List Pointer
met_after [] met = met
met_after (at ∷ elements) met = met_after elements (at ∷ met)

-- Rows that the pointers give from these first ones on, and their elements in hierarchical order, whatever else was
-- met.
abbrev pub RowsStand : List SegDef → List (List ℕ) → List ℕ → List Pointer → List (List Node) → List Pointer → Type 0
RowsStand types area kinds firsts rows elements =
    (met : List Pointer) → ((at : Pointer) → Contains elements at → ¬ Contains met at)
    → AreRows types area met kinds firsts rows (met_after elements met)

-- the same for roots
abbrev pub RootsStand : List SegDef → List (List ℕ) → Pointer → List Root → List Pointer → Type 0
RootsStand types area first roots elements =
    (met : List Pointer) → ((at : Pointer) → Contains elements at → ¬ Contains met at)
    → AreRoots types area met first roots (met_after elements met)

-- ---- what a call builds

-- a type of direct segments
pub record IsDirect (types : List SegDef) (type : ℕ) : Type 0 where
  pub defined : type < length types
  pub direct : IfSome (slice_get types type) (λ def. def.sequential ≡ false)

-- A plan ends in places reserved for segments of these types, one for each.
pub record IsPlanned (types : List SegDef) (area : List (List ℕ)) (plan before used : List Planned) (kinds : List ℕ) :
    Type 0 where
  pub parts : plan ≡ before ++ used
  pub kinds_are : types_of used ≡ kinds
  pub are_reserved : AreReserved types area used
  pub placed : ArePlaced used

-- The place that was planned is given, or one that is new, with room for the type. A new one is in the anchor's own unit
-- of work, and those that were there are so still.
pub record TakesPlace (shape : Shape) (types : List SegDef) (old new : List (List ℕ)) (anchor type : ℕ)
    (planned : Option Pointer) (at : Pointer) : Type 0 where
  pub exchange : Exchanges shape old new (and_place planned []) (at ∷ [])
  pub room : HasRoom (bytes_at new at.0) at.1 (content_length types type)
  pub own : (planned ≡ Some at) ⊎ IsOwnRoom shape new anchor at.0
  pub owned : (ci : ℕ) → IsOwnRoom shape old anchor ci → IsOwnRoom shape new anchor ci

-- each of these elements was one of those, or is in the anchor's own unit of work
abbrev pub HadOrOwn : Shape → List (List ℕ) → ℕ → List Pointer → List Pointer → Type 0
HadOrOwn shape area anchor had has =
    (at : Pointer) → Contains has at → Contains had at ⊎ IsOwnRoom shape area anchor at.0

-- each segment of a plan has a place: the one that was planned, or a new one, with room for its type
pub record TakesPlaces (shape : Shape) (types : List SegDef) (old new : List (List ℕ)) (anchor : ℕ)
    (plan taken : List Planned) : Type 0 where
  pub exchange : Exchanges shape old new (reserved plan) (reserved taken)
  pub kinds : types_of taken ≡ types_of plan
  pub rooms : HaveRooms types new taken
  pub placed : ArePlaced taken
  pub own : HadOrOwn shape new anchor (reserved plan) (reserved taken)

-- so it is for the last segments of a plan; these are left
pub record IsTaking (shape : Shape) (types : List SegDef) (old now : List (List ℕ)) (anchor : ℕ)
    (plan left taken : List Planned) : Type 0 where
  pub done : List Planned
  pub parts : plan ≡ left ++ done
  pub takes : TakesPlaces shape types old now anchor done taken

-- these places are the elements, one by one; every interval keeps its head, and none is added
pub record StandIn (old new : List (List ℕ)) (places elements : List Pointer) : Type 0 where
  pub are : elements ≡ places
  pub heads : (ci : ℕ) → head_of (bytes_at new ci) ≡ head_of (bytes_at old ci)
  pub same_number : length new ≡ length old

-- rows are built in the places that were reserved for them
pub record BuildsRows (shape : Shape) (types : List SegDef) (old new : List (List ℕ)) (used : List Planned)
    (kinds : List ℕ) (firsts : List Pointer) (rows : List (List Node)) : Type 0 where
  pub elements : List Pointer
  pub exchange : Exchanges shape old new (reserved used) elements
  pub stand_in : StandIn old new (reserved used) elements
  pub stand : RowsStand types new kinds firsts rows elements

-- the same for roots
pub record BuildsRoots (shape : Shape) (types : List SegDef) (old new : List (List ℕ)) (used : List Planned)
    (first : Pointer) (roots : List Root) : Type 0 where
  pub elements : List Pointer
  pub exchange : Exchanges shape old new (reserved used) elements
  pub stand_in : StandIn old new (reserved used) elements
  pub stand : RootsStand types new first roots elements

-- the same for one segment and all below it
pub record BuildsSegment (shape : Shape) (types : List SegDef) (old new : List (List ℕ)) (used : List Planned)
    (type : ℕ) (at next : Pointer) (serial : ℕ) (bytes : List ℕ) (rows : List (List Node)) : Type 0 where
  pub firsts : List Pointer
  pub below : List Pointer
  pub exchange : Exchanges shape old new (reserved used) (at ∷ below)
  pub stand_in : StandIn old new (reserved used) (at ∷ below)
  pub has : HasSegment types new type at (record { next = next; serial = serial; firsts = firsts; bytes = bytes })
  pub stand : RowsStand types new (child_types types type) firsts rows below

-- roots are built in the places of a plan, and those that it lacks are taken before
pub record BuildsPlan (shape : Shape) (types : List SegDef) (old new : List (List ℕ)) (anchor : ℕ) (plan : List Planned)
    (first : Pointer) (roots : List Root) : Type 0 where
  pub elements : List Pointer
  pub exchange : Exchanges shape old new (reserved plan) elements
  pub own : HadOrOwn shape new anchor (reserved plan) elements
  pub all_kept : ArePlaced plan → elements ≡ reserved plan
  pub stand : RootsStand types new first roots elements

-- ---- a plan

-- an element of this type is taken out
pub record TakesOut (old new : List Standing) (type : ℕ) (at : Pointer) : Type 0 where
  pub before : List Standing
  pub after : List Standing
  pub taken : Standing
  pub was : old ≡ before ++ taken ∷ after
  pub now : new ≡ before ++ after
  pub is_type : taken.segment ≡ type
  pub is_at : taken.at ≡ at

-- one of these elements, of this type
pub record IsOneOf (all : List Standing) (type : ℕ) (at : Pointer) : Type 0 where
  pub standing : Standing
  pub held : Contains all standing
  pub is_type : standing.segment ≡ type
  pub is_at : standing.at ≡ at

abbrev pub AreTyped : List Standing → List Planned → Type 0
AreTyped all [] = ⊤
AreTyped all (p ∷ plan) = IfSome p.at (IsOneOf all p.segment) × AreTyped all plan

-- These elements are those of a plan and a rest, each in one of them: each planned place is that of an element of its
-- type.
pub record Shares (all : List Standing) (plan : List Planned) (rest : List Standing) : Type 0 where
  pub typed : AreTyped all plan
  pub of_rest : (s : Standing) → Contains rest s → Contains all s
  pub once : AreApart (places_of all) → AreApart (reserved plan ++ places_of rest)
  pub had : (at : Pointer) → Contains (places_of all) at → Contains (reserved plan ++ places_of rest) at
  pub has : (at : Pointer) → Contains (reserved plan ++ places_of rest) at → Contains (places_of all) at

-- used elements, each once
pub record AreGivable (area : List (List ℕ)) (places : List Pointer) : Type 0 where
  pub used : (at : Pointer) → Contains places at → IsUsed (bytes_at area at.0) at.1
  pub once : AreApart places

-- An anchor whose base interval is in its place, a plan for these roots, and the rest of what the anchor had: the places
-- of both are used elements, each once, and those of the plan have room.
pub record IsRebuildable (shape : Shape) (types : List SegDef) (area : List (List ℕ)) (anchor : ℕ) (plan : List Planned)
    (rest : List Standing) (roots : List Root) : Type 0 where
  pub base : IsInPlace shape area (base_of shape anchor)
  pub kinds_are : types_of plan ≡ types_of_roots types roots
  pub rooms : HaveRooms types area plan
  pub used : (at : Pointer) → Contains (places_of rest) at → IsUsed (bytes_at area at.0) at.1
  pub once : AreApart (reserved plan ++ places_of rest)

-- The places of a plan and a rest give way to the elements of these roots, and the root anchor point leads to them.
pub record Rebuilds (shape : Shape) (types : List SegDef) (old new : List (List ℕ)) (anchor : ℕ) (plan : List Planned)
    (rest : List Standing) (roots : List Root) : Type 0 where
  pub middle : List (List ℕ)
  pub first : Pointer
  pub elements : List Pointer
  pub exchange : Exchanges shape old middle (reserved plan ++ places_of rest) elements
  pub own : HadOrOwn shape middle anchor (reserved plan ++ places_of rest) elements
  pub stand : RootsStand types middle first roots elements
  pub put : PutsRoot shape middle new anchor first
