-- One sequential insert in its database.
use Rattle.std.specs.Prelude.{ℕ, ◌+◌, List, slice_set}
use Rattle.fp_model.specs.Commit.{with_newest}
use Rattle.fp_model.specs.Order.{root_key}
use Rattle.fp_model.specs.State.{change_key}
use Rattle.fp_model.specs.declared.calls.SeqInsert.{SeqInsert}
use Rattle.fp_model.specs.declared.database.AreaEnds.{AreaEnds}
use Rattle.fp_model.specs.declared.database.Dedb.{Dedb}
use Rattle.fp_model.specs.declared.database.Root.{Root}
use Rattle.fp_model.specs.declared.definitions.SegDef.{SegDef}

-- the ends behind one more
abbrev pub one_later : AreaEnds → AreaEnds
one_later ends = record ends { end = ends.end + 1 }

-- the database with an insert at the end of an area of it, where its anchor has these roots and the area these ends
abbrev pub with_numbered : List SegDef → ℕ → SeqInsert → AreaEnds → List Root → Dedb → Dedb
with_numbered types number i ends roots dedb = record {
  anchors =
      slice_set dedb.anchors i.anchor
      (change_key (root_key types) i.key (with_newest (record { serial = ends.end; bytes = i.bytes })) roots);
  areas = slice_set dedb.areas number (one_later ends);
}
