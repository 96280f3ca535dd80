use Rattle.std.proofs.Common.{◌≡◌, ◌==◌, drop}
use Rattle.std.specs.List.{list_any}
use Rattle.fp_defs.proofs.whole.has_group.Given as goal

abbrev pub invariant-loop-other : goal.invariant-loop-other
invariant-loop-other l = list_any (λ h. h == l.group) (drop l.other-index l.groups) ≡ list_any (λ h. h == l.group)
    l.groups
