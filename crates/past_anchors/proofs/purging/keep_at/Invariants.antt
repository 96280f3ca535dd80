use Rattle.std.proofs.Common.{◌≡◌}
use Rattle.fp_model.specs.Commit.{kept_from}
use Rattle.past_anchors.proofs.Lists.{changed_to}
use Rattle.past_anchors.proofs.purging.keep_at.Given as goal

-- those so far are changed
abbrev pub invariant-loop-at : goal.invariant-loop-at
invariant-loop-at l = record { so_far : l.roots ≡ changed_to (kept_from l.fn.begin) 0 l.at l.at l.fn.roots }
