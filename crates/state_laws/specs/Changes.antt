-- Other roots at an anchor.
use Rattle.std.specs.Prelude.{◌≡◌, ◌⊎◌, ℕ, List, [], map, true, Some, Contains, slice_get, slice_set}
use Rattle.std.specs.List.{AllByRecursion}
use Rattle.fp_model.specs.declared.database.AreaEnds.{AreaEnds}
use Rattle.fp_model.specs.declared.database.Dedb.{Dedb}
use Rattle.fp_model.specs.declared.database.Root.{Root}
use Rattle.fp_model.specs.declared.definitions.DedbDef.{DedbDef}
use Rattle.fp_model.specs.Order.{root_key}
use Rattle.fp_model.specs.Shape.{is_anchor}
use Rattle.fp_model.specs.State.{Area, areas_from, ascend, has_anchor}

-- the database with other roots at an anchor
abbrev pub with_anchor : ℕ → List Root → Dedb → Dedb
with_anchor anchor roots dedb = record dedb { anchors = slice_set dedb.anchors anchor roots }

-- a root of this key stands there now, with these sequential dependents
pub record IsNow (key : Root → List ℕ) (now : List Root) (root other : Root) : Type 0 where
  pub there : Contains now other
  pub same_key : key other ≡ key root
  pub same_dependents : root.seqs ≡ other.seqs

-- a root has no sequential dependents, or those that the root of its key has now
abbrev pub HasNoneOrNow : (Root → List ℕ) → List Root → Root → Type 0
HasNoneOrNow key now root = (root.seqs ≡ []) ⊎ ((other : Root) × IsNow key now root other)

-- Other roots that fit an anchor: in shape between the ends of its area now, and with no sequential dependents but
-- those that stand there now.
pub record FitsChange (def : DedbDef) (dedb : Dedb) (anchor : ℕ) (roots : List Root) : Type 0 where
  pub keys : ascend (map (root_key def.segments) roots) ≡ true
  pub in_shape : (area : Area) (ends : AreaEnds)
      → Contains (areas_from 0 0 0 def.areas) area
      → slice_get dedb.areas area.number ≡ Some ends
      → has_anchor area 0 anchor ≡ true
      → is_anchor def anchor ends roots ≡ true
  pub dependents : (now : List Root)
      → slice_get dedb.anchors anchor ≡ Some now
      → AllByRecursion (HasNoneOrNow (root_key def.segments) now) roots
