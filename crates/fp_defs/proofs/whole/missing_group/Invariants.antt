use Rattle.std.proofs.Common.{◌≡◌, ◌+◌, ◌-◌, not, ◌==◌, find}
use Rattle.std.specs.List.{list_any}
use Rattle.fp_model.specs.State.{numbers_up}
use Rattle.fp_defs.specs.Whole.{greatest, missing_group}
use Rattle.fp_defs.proofs.whole.missing_group.Given as goal

abbrev pub invariant-loop-i : goal.invariant-loop-i
invariant-loop-i l = find (λ g. not (list_any (λ h. h == g) l.groups)) (numbers_up (greatest l.groups - l.i) (l.i + 1))
    ≡ missing_group l.groups
