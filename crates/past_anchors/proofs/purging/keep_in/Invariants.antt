use Rattle.std.proofs.Common.{◌≡◌, ◌-◌, map}
use Rattle.fp_model.specs.Commit.{kept_from}
use Rattle.past_anchors.proofs.Lists.{changed_to}
use Rattle.past_anchors.proofs.purging.keep_in.Given as goal

-- those so far are changed
abbrev pub invariant-loop-at : goal.invariant-loop-at
invariant-loop-at l = record {
  so_far : l.anchors ≡ changed_to (map (kept_from l.fn.begin)) l.fn.first (l.at - l.fn.first) l.at l.fn.anchors;
}
