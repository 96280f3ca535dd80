-- What bodies and proofs need of Regions, beside what contracts say.
use Rattle.std.specs.Prelude.{◌≡◌, ⊤, ℕ, ◌≤◌, length, Bool, not, ◌&&◌, ◌==◌, Option, Some, None, if◌then◌else◌}
use Rattle.fp_model.specs.declared.calls.Mode.{Mode}
use Rattle.fp_model.specs.declared.calls.Resource.{Resource}
use Rattle.fp_model.specs.Waiting.{Lock, same_resource}
use Rattle.ci_locks.specs.Holdings.{held_by, mode_of}
use Rattle.ci_locks.specs.Sets.{has}
use Rattle.ci_locks.specs.Standing.{Standing, is_in_conflict}
use Rattle.ci_locks.specs.Table.{lock_of}
use Rattle.ci_locks.specs.declared.holding.Holders.{Holders}
use Rattle.ci_locks.specs.declared.state.News.{News}
use Rattle.ci_locks.specs.declared.state.News.TheVariants as news
use Rattle.ci_locks.specs.declared.state.Region.{Region}
use Rattle.ci_locks.specs.declared.state.Request.{Request}
use Rattle.ci_locks.specs.declared.state.State.{State}
use Rattle.ci_locks.specs.Regions.{region_at}

abbrev pub region_request : ℕ → Option Region → Option Lock
region_request number None = None
region_request number (Some region) = lock_of number region.request

abbrev pub standing_of : State → Standing
standing_of s = record {
  regions = length s.regions.items;
  holds = held_by s.holdings;
  asks = λ number. region_request number (region_at s.regions.items number);
}

-- ---- what regions are told

-- whether it asks for a resource, and then in which mode
abbrev pub asked_mode : Resource → Option Request → Option Mode
asked_mode resource None = None
asked_mode resource (Some request) = if same_resource resource request.resource then Some request.mode else None

abbrev pub ahead_of : Holders → ℕ → Option Mode → (ℕ → Bool) → ℕ → Bool
ahead_of holders number None old other = old other
ahead_of holders number (Some mode) old other = not (other == number) && is_in_conflict (mode_of holders other) mode

-- of a region that is one of 1 to 64
abbrev pub IsRegion : News → Type 0
IsRegion (news.Gained resource holders) = ⊤
IsRegion (news.Freed region) = (1 ≤ region) × (region ≤ 64)

-- who stands in its way then
abbrev pub heard : News → ℕ → Option Request → (ℕ → Bool) → ℕ → Bool
heard (news.Gained resource holders) number request old other =
    ahead_of holders number (asked_mode resource.now request) old other
heard (news.Freed region) number request old other = not (other == region) && old other

pub record Hears (n : News) (number : ℕ) (old new : Region) : Type 0 where
  pub held : new.held.items ≡ old.held.items
  pub request : new.request ≡ old.request
  pub ahead : (other : ℕ) → has new.ahead.0 other ≡ heard n number old.request (has old.ahead.0) other

-- both are there, or neither is
abbrev pub AreTold : News → ℕ → Option Region → Option Region → Type 0
AreTold n number None None = ⊤
AreTold n number (Some old) (Some new) = Hears n number old new
AreTold n number None (Some new) = ⊥
AreTold n number (Some old) None = ⊥
