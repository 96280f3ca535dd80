-- What contracts see of a store of segments.
use Rattle.std.specs.Prelude.{◌≡◌, ⊤, ℕ, ◌^◌, ◌-◌, min, List, [], ◌∷◌, map, Option, Some, None, slice_get}
use Rattle.std.specs.List.{AllZip}
use Rattle.fp_model.specs.CheckpointText.{IsMsdbOf}
use Rattle.fp_model.specs.Items.{FitsMsdb}
use Rattle.fp_model.specs.State.{segment_of, segment_after}
use Rattle.fp_model.specs.declared.database.Msdb.{Msdb}
use Rattle.fp_model.specs.declared.log.Item.{Item}
use Rattle.fp_model.specs.declared.log.Item.TheVariants.{Segment, Image, Range}
use Rattle.fp_model.specs.declared.definitions.FieldDef.{FieldDef}
use Rattle.fp_model.specs.declared.definitions.MsdbDef.{MsdbDef}

-- the fields of each database's segments, the databases, and how many segments each of them takes without more memory
pub record Stored : Type 0 where
  pub layouts : List (List FieldDef)
  pub msdbs : List Msdb
  pub spare : ℕ

-- how many more elements there is room for, where 2^32 of them are too many
abbrev pub room : ℕ → ℕ → ℕ
room capacity count = min capacity (2 ^ 32 - 1) - count

-- the least of some numbers that are below 2^32
abbrev pub least : List ℕ → ℕ
least [] = 2 ^ 32 - 1
least (n ∷ ns) = min n (least ns)

-- The store is one of these definitions: the fields are theirs, segments have their lengths, and keys ascend.
pub record IsOf (defs : List MsdbDef) (store : Stored) : Type 0 where
  pub layouts : store.layouts ≡ map (λ def. def.fields) defs
  pub each : AllZip IsMsdbOf defs store.msdbs

-- the segment of a key in the databases
abbrev pub segment_in : List MsdbDef → List Msdb → ℕ → List ℕ → Option (List ℕ)
segment_in defs msdbs number key = elim (slice_get defs number) [
  | None ↦ None
  | Some def ↦ elim (slice_get msdbs number) [ None ↦ None | Some msdb ↦ segment_of def msdb key ]
]

-- and in those of a store
abbrev pub found : List MsdbDef → Stored → ℕ → List ℕ → Option (List ℕ)
found defs store number key = segment_in defs store.msdbs number key

-- the first segment behind a key, or the first of all
abbrev pub found_after : List MsdbDef → Stored → ℕ → Option (List ℕ) → Option (List ℕ)
found_after defs store number key = elim (slice_get defs number) [
  | None ↦ None
  | Some def ↦ elim (slice_get store.msdbs number) [ None ↦ None | Some msdb ↦ segment_after def msdb key ]
]

-- a segment item is fit: its segment is one that its database may have; other items are left aside
abbrev pub IsFitSegment : List MsdbDef → Item → Type 0
IsFitSegment defs (Segment number key bytes) = (def : MsdbDef) × (slice_get defs number ≡ Some def)
    × FitsMsdb def key bytes
IsFitSegment defs (Image set ci bytes) = ⊤
IsFitSegment defs (Range set ci at bytes) = ⊤
