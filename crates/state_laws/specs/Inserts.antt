-- Sequential inserts, each at one anchor.
use Rattle.std.specs.Prelude.{◌≡◌, ℕ, ◌+◌, ◌-◌, ◌^◌, ◌≤◌, List, true, Some, Contains, slice_get, slice_set}
use Rattle.fp_model.specs.declared.database.AreaEnds.{AreaEnds}
use Rattle.fp_model.specs.declared.database.Dedb.{Dedb}
use Rattle.fp_model.specs.declared.database.Root.{Root}
use Rattle.fp_model.specs.declared.definitions.DedbDef.{DedbDef}
use Rattle.fp_model.specs.Commit.{with_newest}
use Rattle.fp_model.specs.Order.{root_key, sequential_type}
use Rattle.fp_model.specs.Shape.{has_length}
use Rattle.fp_model.specs.State.{Area, areas_from, change_key, has_anchor}

-- the ends with another end
abbrev pub ending_at : ℕ → AreaEnds → AreaEnds
ending_at end ends = record ends { end = end }

-- the roots with a sequential dependent of this serial in front of those of a key
abbrev pub with_serial : DedbDef → ℕ → List ℕ → List ℕ → List Root → List Root
with_serial def serial key bytes roots =
    change_key (root_key def.segments) key (with_newest (record { serial = serial; bytes = bytes })) roots

-- A sequential insert that fits: the area and the anchor, their ends and roots now, and bytes as long as the sequential
-- type says. The area has room for one more.
pub record FitsSequential (def : DedbDef) (dedb : Dedb) (area : Area) (anchor : ℕ) (ends : AreaEnds)
    (roots : List Root) (bytes : List ℕ) : Type 0 where
  pub area_there : Contains (areas_from 0 0 0 def.areas) area
  pub in_area : has_anchor area 0 anchor ≡ true
  pub ends_now : slice_get dedb.areas area.number ≡ Some ends
  pub roots_now : slice_get dedb.anchors anchor ≡ Some roots
  pub type : ℕ
  pub kind : sequential_type def.segments ≡ Some type
  pub long : has_length def.segments type bytes ≡ true
  pub room : ends.end + 1 - ends.begin ≤ area.def.capacity
  pub last : ends.end + 1 ≤ 2 ^ 62

-- the database with that insert made
abbrev pub with_sequential : DedbDef → Area → ℕ → AreaEnds → List Root → List ℕ → List ℕ → Dedb → Dedb
with_sequential def area anchor ends roots key bytes dedb = record {
  anchors = slice_set dedb.anchors anchor (with_serial def ends.end key bytes roots);
  areas = slice_set dedb.areas area.number (ending_at (ends.end + 1) ends);
}
