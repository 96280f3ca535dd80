-- What is at hand stays so.
use Rattle.std.proofs.Common.{◌≡◌, ℕ, sym, ◌∙◌, ap, subst}
use Rattle.std.specs.Prelude.{IsSome}
use Rattle.std.specs.Map.{lookup}
use Rattle.ci_pool.specs.Cells.{is_key}
use Rattle.ci_pool.specs.Held.{Held, SameAtHand, bytes_of, clean_at, first_of, held_at, pending_at}
use Rattle.area_staging.specs.Staging.{AllAtHand}

pub still_at_hand : (set count : ℕ) (p q : Held) → AllAtHand p set count → SameAtHand p q → AllAtHand q set count
still_at_hand set count p q all same ci below = subst IsSome (sym (same set ci)) (all ci below)

-- by what is pending and the list of clean ones
pub hand_of : (p q : Held) → ((s k : ℕ) → pending_at q s k ≡ pending_at p s k) → q.clean ≡ p.clean → SameAtHand p q
hand_of p q pending list s k =
    ap (λ w. first_of (bytes_of w) (clean_at q s k)) (pending s k)
    ∙ ap (λ l. first_of (bytes_of (pending_at p s k)) (lookup (is_key s k) l)) list

pub hand_then : (p q r : Held) → SameAtHand p q → SameAtHand q r → SameAtHand p r
hand_then p q r first second s k = second s k ∙ first s k

pub hand_same : (p q : Held) → q ≡ p → SameAtHand p q
hand_same p q same s k = ap (λ (x : Held). held_at x s k) same
