use Rattle.std.proofs.Common.{◌≡◌, List}
use Rattle.std.specs.List.{AllByRecursion}
use Rattle.fp_model.specs.Commit.{with_inserts}
use Rattle.fp_model.specs.declared.database.Msdb.{Msdb}
use Rattle.past_anchors.specs.Databases.{state_of}
use Rattle.past_anchors.proofs.Inserting.{beside}
use Rattle.state_laws.specs.Parts.{FitsSeqInsert}
use Rattle.state_laws.proofs.Numbering.{HasShapeAndRoom}
use Rattle.past_anchors.proofs.numbering.insert_all.Given as goal

-- the others are left, and have room
abbrev pub invariant-loop-one : goal.invariant-loop-one
invariant-loop-one l = record {
  inserted : (msdbs : List Msdb) → with_inserts l.defs l.one-iterator.rest.items (state_of msdbs l.dedbs)
      ≡ with_inserts l.defs l.fn.inserts (state_of msdbs l.initial.dedbs);
  has : HasShapeAndRoom l.defs l.one-iterator.rest.items (beside l.defs l.dedbs);
  fits : AllByRecursion (FitsSeqInsert l.defs) l.one-iterator.rest.items;
}
