use Rattle.std.proofs.Common.{◌≡◌, ◌+◌, ◌-◌, ◌≤◌, ℕ, length}
use Rattle.std.specs.Prelude.{Some}
use Rattle.area_staging.specs.Items.{flag_at}
use Rattle.area_staging.proofs.imaging.grow.Given as goal

-- flags that are added say false
abbrev pub invariant-loop-flags : goal.invariant-loop-flags
invariant-loop-flags l = record {
  same : (k : ℕ) → flag_at (Some l.flags) k ≡ flag_at (Some l.initial.flags) k;
  longer : length l.initial.flags ≤ length l.flags;
}

abbrev pub decreases-loop-flags : goal.decreases-loop-flags
decreases-loop-flags l = l.count + 1 - length l.flags
