use Rattle.std.proofs.Common.{◌≡◌, ◌==◌, ℕ, length, None, Some}
use Rattle.std.specs.Prelude.{Contains, if◌then◌else◌}
use Rattle.fp_model.specs.declared.calls.Mode.{Mode}
use Rattle.fp_model.specs.declared.calls.Resource.{Resource}
use Rattle.ci_locks.specs.Holdings.{AreHeld, held_by}
use Rattle.ci_locks.proofs.state.leave_all.Given as goal

-- what the region still holds stands in the list
abbrev pub invariant-loop-resource : goal.invariant-loop-resource
invariant-loop-resource l = record {
  others : (other : ℕ) (one : Resource) → (if other == l.region then None else held_by l.holdings other one) ≡
      (if other == l.region then None else held_by l.fn.holdings other one);
  listed : (one : Resource) (mode : Mode) → held_by l.holdings l.region one ≡ Some mode → Contains l.held.items one;
  held : AreHeld l.holdings;
}

abbrev pub decreases-loop-resource : goal.decreases-loop-resource
decreases-loop-resource l = length l.held.items
