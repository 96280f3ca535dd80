-- Which items of an entry restart may apply under these definitions, and what those of segments make of the databases.
use Rattle.std.specs.Prelude.{◌≡◌, ◌⊎◌, ℕ, ◌+◌, ◌-◌, ◌*◌, ◌^◌, ◌≤◌, List, [], ◌∷◌, length, take, replicate, find, fold, slice_get, Bool, true, false, Some}
use Rattle.std.specs.List.{flat_map, AllByRecursion}
use Rattle.std.specs.Option.{option_map_or}
use Rattle.fp_model.specs.State.{first_area_set, key_length, with_segment, without_segment}
use Rattle.fp_model.specs.ItemTargets.{names_interval}
use Rattle.fp_model.specs.Settle.{with_msdb}
use Rattle.fp_model.specs.declared.definitions.Defs.{Defs}
use Rattle.fp_model.specs.declared.definitions.MsdbDef.{MsdbDef}
use Rattle.fp_model.specs.declared.database.Msdb.{Msdb}
use Rattle.fp_model.specs.declared.log.Item.{Item}
use Rattle.fp_model.specs.declared.log.Item.TheVariants.{Segment, Image, Range}
use Rattle.fp_model.specs.declared.log.Entry.{Entry}

-- the interval size of each area, in the order of the definitions
abbrev pub area_sizes : Defs → List ℕ
area_sizes defs = flat_map (λ dedb. replicate (length dedb.areas) dedb.ci) defs.dedbs

-- a segment as its definition has it, under its key, or no segment at all
pub record FitsMsdb (def : MsdbDef) (key bytes : List ℕ) : Type 0 where
  pub key_length : length key ≡ key_length def.fields
  pub segment : (bytes ≡ []) ⊎ ((length bytes ≡ def.length) × (take (length key) bytes ≡ key))

-- an interval of an area, of the area's size, that ends at or before byte 2^62
pub record IsAreaInterval (defs : Defs) (set ci size : ℕ) : Type 0 where
  pub is_area : first_area_set ≤ set
  pub has_size : slice_get (area_sizes defs) (set - first_area_set) ≡ Some size
  pub end : (ci + 1) * size ≤ 2 ^ 62

-- an item is fit where its segment is one of a database that is defined, its image is an interval of an area, or its
-- range lies within one
abbrev pub IsFit : Defs → Item → Type 0
IsFit defs (Segment msdb key bytes) = (def : MsdbDef) × (slice_get defs.msdbs msdb ≡ Some def) × FitsMsdb def key bytes
IsFit defs (Image set ci bytes) = IsAreaInterval defs set ci (length bytes)
IsFit defs (Range set ci at bytes) = (size : ℕ) × IsAreaInterval defs set ci size × (at + length bytes ≤ size)

abbrev pub is_image : Item → Bool
is_image (Segment msdb key bytes) = false
is_image (Image set ci bytes) = true
is_image (Range set ci at bytes) = false

-- whether the first item of an interval, if there is one, is an image
abbrev pub begins_with_image : ℕ → ℕ → List Item → Bool
begins_with_image set ci items = option_map_or is_image (find (names_interval set ci) items) true

-- items that may be applied in this order: each is fit, and an interval is written whole before a range of it is
pub record AreFit (defs : Defs) (items : List Item) : Type 0 where
  pub each : AllByRecursion (IsFit defs) items
  pub begin : (set ci : ℕ) → begins_with_image set ci items ≡ true

-- what entries changed, in order
abbrev pub items_of : List Entry → List Item
items_of entries = flat_map (λ e. e.items) entries

-- a database with a segment in place of that of its key; no bytes take that one away
abbrev pub with_bytes : List ℕ → List ℕ → MsdbDef → Msdb → Msdb
with_bytes key [] def msdb = without_segment def key msdb
with_bytes key (b ∷ bytes) def msdb = with_segment def (b ∷ bytes) msdb

-- the main storage databases behind an item; those of intervals change none of them
abbrev pub with_item : List MsdbDef → List Msdb → Item → List Msdb
with_item defs msdbs (Segment number key bytes) = with_msdb defs number (with_bytes key bytes) msdbs
with_item defs msdbs (Image set ci bytes) = msdbs
with_item defs msdbs (Range set ci at bytes) = msdbs

-- and behind items, in their order
abbrev pub with_items : List MsdbDef → List Msdb → List Item → List Msdb
with_items defs msdbs items = fold (with_item defs) msdbs items
