use Rattle.std.proofs.Common.{◌≡◌, ◌≤◌, length, take}
use Rattle.std.specs.Prelude.{filter}
use Rattle.fp_model.specs.Commit.{takes}
use Rattle.past_anchors.specs.inside.Places.{area_of}
use Rattle.past_anchors.proofs.full.count.Given as goal

abbrev pub invariant-loop-insert : goal.invariant-loop-insert
invariant-loop-insert l = record {
  count : l.n ≡ length (filter (takes (area_of l.area)) (take l.insert-index l.inserts));
  few : l.n ≤ l.insert-index;
}
