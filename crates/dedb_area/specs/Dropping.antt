-- What was staged of areas is dropped.
use Rattle.std.specs.Prelude.{◌≡◌, ℕ}
use Rattle.ci_pool.specs.Held.{pending_at}
use Rattle.dedb_area.specs.Publishing.{IsFitStaged}
use Rattle.dedb_area.specs.Standing.{Holding, IsFitPool}

-- What is staged is dropped, and all else stays.
pub record IsDropped (before after : Holding) : Type 0 where
  pub pending : (set ci : ℕ) → pending_at after.pool set ci ≡ pending_at before.pool set ci
  pub list : after.pool.clean ≡ before.pool.clean
  pub fit : IsFitStaged before.places before.pool → IsFitPool after.places after.pool
  pub places : after.places ≡ before.places
  pub unsynced : after.unsynced ≡ before.unsynced
  pub imaged : after.imaged ≡ before.imaged
