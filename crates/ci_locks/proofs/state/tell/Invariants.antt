use Rattle.std.proofs.Common.{◌≡◌, ℕ, length, suc, ◌<◌, ◌≤◌}
use Rattle.std.specs.Prelude.{slice_get}
use Rattle.ci_locks.specs.inside.Regions.{AreTold}
use Rattle.ci_locks.proofs.state.tell.Given as goal

abbrev pub invariant-loop-place : goal.invariant-loop-place
invariant-loop-place l = record {
  long : length l.regions ≡ length l.fn.regions;
  told : (k : ℕ) → k < l.place → AreTold l.news (suc k) (slice_get l.fn.regions k) (slice_get l.regions k);
  rest : (k : ℕ) → l.place ≤ k → slice_get l.regions k ≡ slice_get l.fn.regions k;
}
