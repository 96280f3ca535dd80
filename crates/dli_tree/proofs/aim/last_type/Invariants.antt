use Rattle.std.proofs.Common.{◌≡◌, drop}
use Rattle.fp_model.specs.Order.{last_type}
use Rattle.dli_tree.proofs.aim.last_type.Given as goal

abbrev pub invariant-loop-ssa : goal.invariant-loop-ssa
invariant-loop-ssa l = last_type l.fn.segment l.ssas ≡ last_type l.last (drop l.ssa-index l.ssas)
