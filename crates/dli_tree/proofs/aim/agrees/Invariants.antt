use Rattle.std.proofs.Common.{◌≡◌, drop}
use Rattle.dli_tree.specs.inside.Aims.{agrees}
use Rattle.dli_tree.proofs.aim.agrees.Given as goal

-- what is left decides
abbrev pub invariant-loop-ssa : goal.invariant-loop-ssa
invariant-loop-ssa l =
    agrees l.ssas (record { segment = l.segment; key = l.key; serial = 0 })
    ≡ agrees (drop l.ssa-index l.ssas) (record { segment = l.segment; key = l.key; serial = 0 })
