use Rattle.std.proofs.Common.{◌≡◌, ◌≤◌, ◌-◌, ℕ, length, get_or}
use Rattle.area_staging.proofs.items.last_difference.Given as goal

abbrev pub invariant-loop-last : goal.invariant-loop-last
invariant-loop-last l = record {
  from : l.first ≤ l.last;
  within : l.last ≤ length l.new;
  behind : (i : ℕ) → l.last ≤ i → get_or l.old i 0 ≡ get_or l.new i 0;
}

abbrev pub decreases-loop-last : goal.decreases-loop-last
decreases-loop-last l = l.last - l.first
