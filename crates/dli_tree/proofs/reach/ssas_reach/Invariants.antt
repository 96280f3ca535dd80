use Rattle.dli_tree.proofs.reach.ssas_reach.Given as goal

abbrev pub invariant-loop-ssa : goal.invariant-loop-ssa
invariant-loop-ssa l = Unit {0}
