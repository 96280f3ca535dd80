use Rattle.std.proofs.Common.{◌≡◌, ◌+◌, List, drop, sum_by}
use Rattle.fp_model.specs.Commit.{first_full}
use Rattle.fp_model.specs.State.{anchors_in, areas_from}
use Rattle.fp_model.specs.declared.database.Msdb.{Msdb}
use Rattle.past_anchors.specs.Databases.{state_of}
use Rattle.past_anchors.proofs.full.first_full_in.Given as goal

-- it is looked for among the areas that are left
abbrev pub invariant-loop-def : goal.invariant-loop-def
invariant-loop-def l = record {
  full : (msdbs : List Msdb) → first_full (state_of msdbs l.dedbs) l.inserts (l.first_set + l.number)
      (areas_from l.dedb l.number l.first_anchor (drop l.def-index l.areas))
      ≡ first_full (state_of msdbs l.dedbs) l.inserts l.first_set (areas_from l.dedb 0 0 l.areas);
  number : l.number ≡ l.def-index;
  anchors : l.first_anchor + sum_by anchors_in (drop l.def-index l.areas) ≡ sum_by anchors_in l.areas;
}
