use Rattle.std.proofs.Common.{◌≡◌, ◌<◌, ◌≤◌, ◌-◌, ℕ, length, get_or}
use Rattle.area_staging.proofs.items.first_difference.Given as goal

abbrev pub invariant-loop-first : goal.invariant-loop-first
invariant-loop-first l = record {
  within : l.first ≤ length l.new;
  below : (i : ℕ) → i < l.first → get_or l.old i 0 ≡ get_or l.new i 0;
}

abbrev pub decreases-loop-first : goal.decreases-loop-first
decreases-loop-first l = length l.new - l.first
