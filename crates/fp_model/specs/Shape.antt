-- What a state keeps under its definitions: lengths, ascending keys, lists for each child type, serials.
use Rattle.std.specs.Prelude.{◌≡◌, ℕ, ◌-◌, ◌^◌, List, [], ◌∷◌, length, map, flat_map, take, drop, Bool, true, false, ◌&&◌, ◌||◌, ◌==◌, nat_le, nat_lt, Some, Contains, slice_get}
use Rattle.std.specs.List.{AllZip, IsDistinct, list_all}
use Rattle.std.specs.Option.{option_map_or}
use Rattle.fp_model.specs.declared.definitions.DedbDef.{DedbDef}
use Rattle.fp_model.specs.declared.definitions.Defs.{Defs}
use Rattle.fp_model.specs.declared.definitions.SegDef.{SegDef}
use Rattle.fp_model.specs.declared.database.AreaEnds.{AreaEnds}
use Rattle.fp_model.specs.declared.database.Db.{Db}
use Rattle.fp_model.specs.declared.database.Dedb.{Dedb}
use Rattle.fp_model.specs.declared.database.Node.{Node}
use Rattle.fp_model.specs.declared.database.Node.TheOpen.{Node-F}
use Rattle.fp_model.specs.declared.database.Node.TheFolds.{fold-Node}
use Rattle.fp_model.specs.declared.database.Root.{Root}
use Rattle.fp_model.specs.declared.database.SeqItem.{SeqItem}
use Rattle.fp_model.specs.State.{Area, anchors_in, ascend, areas_from, has_anchor, anchor_count}
use Rattle.fp_model.specs.Exits.{anchor_of}
use Rattle.fp_model.specs.Order.{key_in, child_types, root_key, sequential_type}
use Rattle.fp_model.specs.CheckpointText.{IsMsdbOf}

-- whether a segment has the length of its type
abbrev pub has_length : List SegDef → ℕ → List ℕ → Bool
has_length types type bytes = option_map_or (λ def. length bytes == def.length) (slice_get types type) false

-- ---- direct dependents

-- A segment as a type sees it: whether it and all below it are in shape, and its bytes.
pub record Seen : Type 0 where
  pub in_shape : Bool
  pub bytes : List ℕ

-- a row of segments of a type: each in shape, keys ascending
abbrev pub is_row : List SegDef → ℕ → List (ℕ → Seen) → Bool
is_row types type row =
    list_all (λ seen. (seen type).in_shape) row && ascend (map (λ seen. key_in types type (seen type).bytes) row)

-- a row for each child type
abbrev pub are_rows : List SegDef → List ℕ → List (List (ℕ → Seen)) → Bool
are_rows types [] [] = true
are_rows types [] (row ∷ rows) = false
are_rows types (type ∷ rest) [] = false
are_rows types (type ∷ rest) (row ∷ rows) = is_row types type row && are_rows types rest rows

abbrev pub seen_step : List SegDef → Node-F (ℕ → Seen) → ℕ → Seen
seen_step types f type =
    let rows : Bool = are_rows types (child_types types type) f.children in
    record { in_shape = has_length types type f.bytes && rows; bytes = f.bytes }

abbrev pub seen_as : List SegDef → Node → ℕ → Seen
seen_as types = fold-Node (ℕ → Seen) (seen_step types)

-- ---- roots

-- sequential dependents: newest first, with serials from begin on and below end
abbrev pub are_newest_first : ℕ → ℕ → List SeqItem → Bool
are_newest_first begin end [] = true
are_newest_first begin end (item ∷ items) =
    nat_le begin item.serial && nat_lt item.serial end && are_newest_first begin item.serial items

-- each as long as the sequential type says; none without such a type
abbrev pub have_lengths : List SegDef → List SeqItem → Bool
have_lengths types items =
    list_all (λ item. option_map_or (λ type. has_length types type item.bytes) (sequential_type types) false) items

-- a root between these ends of its area
abbrev pub is_root : List SegDef → AreaEnds → Root → Bool
is_root types ends root =
    has_length types 0 root.bytes
    && are_rows types (child_types types 0) (map (map (seen_as types)) root.children)
    && are_newest_first ends.begin ends.end root.seqs
    && have_lengths types root.seqs

-- the roots of an anchor: each in shape and sent there by the randomizer, keys ascending
abbrev pub is_anchor : DedbDef → ℕ → AreaEnds → List Root → Bool
is_anchor def anchor ends roots =
    list_all (is_root def.segments ends) roots
    && ascend (map (root_key def.segments) roots)
    && list_all (λ root. anchor_of def (root_key def.segments root) == anchor) roots

-- ---- states

-- the sequential part holds at most its capacity, serials stay within 2^62, and without a capacity there never was one
abbrev pub are_ends : ℕ → AreaEnds → Bool
are_ends capacity ends =
    nat_le 1 ends.begin && nat_le ends.begin ends.end && nat_le (ends.end - ends.begin) capacity
    && nat_le ends.end (2 ^ 62)
    && (nat_lt 0 capacity || ends.end == 1)

-- the serials that stand at the roots of an area, numbered as one of its database alone
abbrev pub serials_in : Area → Dedb → List ℕ
serials_in area dedb =
    flat_map (λ roots. flat_map (λ root. map (λ item. item.serial) root.seqs) roots)
    (take (anchors_in area.def) (drop area.first_anchor dedb.anchors))

-- Every anchor of every area is in shape, so are the ends of each area, and a serial stands at most once in its area.
-- The areas are numbered here as those of one database alone.
pub record IsDedbOf (def : DedbDef) (dedb : Dedb) : Type 0 where
  pub anchors : length dedb.anchors ≡ anchor_count def
  pub areas : AllZip (λ area ends. are_ends area.capacity ends ≡ true) def.areas dedb.areas
  pub each_anchor : (area : Area) (ends : AreaEnds) (anchor : ℕ) (roots : List Root)
      → Contains (areas_from 0 0 0 def.areas) area
      → slice_get dedb.areas area.number ≡ Some ends
      → has_anchor area 0 anchor ≡ true
      → slice_get dedb.anchors anchor ≡ Some roots
      → is_anchor def anchor ends roots ≡ true
  pub serials : (area : Area) → Contains (areas_from 0 0 0 def.areas) area → IsDistinct ◌==◌ (serials_in area dedb)

pub record IsDbOf (defs : Defs) (db : Db) : Type 0 where
  pub msdbs : AllZip IsMsdbOf defs.msdbs db.msdbs
  pub dedbs : AllZip IsDedbOf defs.dedbs db.dedbs
