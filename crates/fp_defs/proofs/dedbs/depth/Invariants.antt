use Rattle.std.proofs.Common.{◌≡◌, ◌≤◌, max, drop}
use Rattle.fp_defs.specs.Dedbs.{depth_from}
use Rattle.fp_defs.proofs.dedbs.depth.Given as goal

abbrev pub invariant-loop-place : goal.invariant-loop-place
invariant-loop-place l = (max l.most (depth_from l.types l.place (drop l.place l.types)) ≡ depth_from l.types 0 l.types)
    × (l.most ≤ 16)
