-- A call that holds the intervals that it reads, as it begins.
use Rattle.std.proofs.Common.{◌≡◌, ◌∙◌, ℕ, List, length, sym, ap, subst}
use Rattle.held_intervals.specs.Holding.{Changes, overlaid, AreRead, IsToldHeld}
use Rattle.held_intervals.proofs.Holds.{begun_told, none_changed}
use Rattle.std.specs.Prelude.{None}
use Rattle.root_anchor.specs.inside.Walking.{IsLook}

-- what is held is told, and it is what stood in the area before
pub record Starts {I : Type 0} (told : I → Type 0) (intervals : I → List (List ℕ)) (number size : I → ℕ) (old begun : I)
    (held_size : ℕ) (read changed : Changes) : Type 0 where
  pub told_held : told begun
      × IsToldHeld (number begun) (size begun) (intervals begun) held_size read changed
  pub over : overlaid (number begun) changed (intervals begun) ≡ intervals old

pub starts : {I : Type 0} {told : I → Type 0} {intervals : I → List (List ℕ)} {number size faults : I → ℕ}
    {keeps : I → I → Type 0} {old looked begun : I} {held_size : ℕ} {read changed : Changes}
    → IsLook told intervals number size faults keeps old looked → begun ≡ looked → held_size ≡ size old
    → AreRead read (intervals old) → ((ci : ℕ) → changed ci ≡ None)
    → ((x : I) → told x → length (intervals x) ≡ number x) → told old
    → Starts told intervals number size old begun held_size read changed
starts {told = told} {intervals = intervals} {number = number} {size = size} {old = old} {begun = begun}
    {held_size = held_size} {read = read} {changed = changed} look is sized are none numbered t =
    let now : told begun = subst told (sym is) (look.goes_on.tells t) in
    let area : intervals begun ≡ intervals old = ap intervals is ∙ look.same t in
    let same_size : held_size ≡ size begun = sized ∙ sym look.goes_on.same_size ∙ ap size (sym is) in
    record {
      told_held = (
        now,
        begun_told (number begun) (size begun) (intervals begun) held_size read changed same_size
            (subst (λ a. AreRead read a) (sym area) are) none,
      );
      over = none_changed changed (intervals begun) (number begun) (numbered begun now) none ∙ area;
    }
