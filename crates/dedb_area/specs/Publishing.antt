-- What is staged of areas becomes pending, or is dropped.
use Rattle.std.specs.Prelude.{◌≡◌, ℕ, ◌-◌, ◌<◌, ◌^◌, List, IsSome, Some}
use Rattle.ci_pool.specs.declared.cell.Waiting.{Waiting}
use Rattle.ci_pool.specs.Cells.{renewed_by}
use Rattle.ci_pool.specs.Held.{Held, HasSize, pending_at, staged_at}
use Rattle.area_states.specs.declared.place.Place.{Place}
use Rattle.area_states.specs.Places.{place_at}

-- What the pool has of an area's intervals has their size, and it has pending and staged ones of areas alone. No entry has
-- the last number.
pub record IsFitStaged (places : List Place) (pool : Held) : Type 0 where
  pub sizes : (set : ℕ) (place : Place) → place_at places set ≡ Some place → HasSize set place.shape.ci pool
  pub areas : (set ci : ℕ) (w : Waiting) → pending_at pool set ci ≡ Some w → IsSome (place_at places set)
  pub below : (set ci : ℕ) (w : Waiting) → pending_at pool set ci ≡ Some w → w.newest < 2 ^ 64 - 1
  pub staged : (set ci : ℕ) (bytes : List ℕ) → staged_at pool set ci ≡ Some bytes → IsSome (place_at places set)

-- each staged interval is pending for the entry at a place, and the others are as before
abbrev pub ArePublished : ℕ → Held → Held → Type 0
ArePublished place before after =
    (set ci : ℕ) → pending_at after set ci ≡ renewed_by place (staged_at before set ci) (pending_at before set ci)
