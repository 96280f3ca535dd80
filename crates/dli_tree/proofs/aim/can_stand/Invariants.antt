use Rattle.std.proofs.Common.{◌≡◌, drop}
use Rattle.dli_tree.specs.inside.Aims.{can_stand}
use Rattle.dli_tree.proofs.aim.can_stand.Given as goal

-- what is left decides
abbrev pub invariant-loop-ssa : goal.invariant-loop-ssa
invariant-loop-ssa l = can_stand l.segments l.last l.ssas ≡ can_stand l.segments l.last (drop l.ssa-index l.ssas)
