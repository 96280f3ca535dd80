use Rattle.std.proofs.Common.{◌≡◌, ◌+◌, ◌*◌, ◌≤◌, List, drop}
use Rattle.fp_model.specs.Commit.{first_full}
use Rattle.fp_model.specs.State.{areas_of_all}
use Rattle.fp_model.specs.declared.database.Msdb.{Msdb}
use Rattle.past_anchors.specs.Databases.{state_of}
use Rattle.past_anchors.proofs.full.first_full.Given as goal

-- it is looked for among the areas that are left
abbrev pub invariant-loop-def : goal.invariant-loop-def
invariant-loop-def l = record {
  full : (msdbs : List Msdb) → first_full (state_of msdbs l.dedbs) l.inserts l.set
      (areas_of_all l.dedb (drop l.def-index l.defs))
      ≡ first_full (state_of msdbs l.dedbs) l.inserts 3 (areas_of_all 0 l.defs);
  dedb : l.dedb ≡ l.def-index;
  set : l.set ≤ 3 + 16 * l.def-index;
}
