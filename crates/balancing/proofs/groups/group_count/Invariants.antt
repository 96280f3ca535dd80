use Rattle.std.proofs.Common.{◌≡◌, fold, max, take}
use Rattle.balancing.proofs.groups.group_count.Given as goal

abbrev pub invariant-loop-group : goal.invariant-loop-group
invariant-loop-group l = l.most ≡ fold max 0 (take l.group-index l.regions)
