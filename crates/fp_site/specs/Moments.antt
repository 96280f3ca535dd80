-- What a run of calls leaves at every moment.
use Rattle.std.specs.Prelude.{◌≡◌, ◌⊎◌, ℕ, ◌≤◌}
use Rattle.fp_site.specs.Disk.{Snapshot, Disk, Differs, Elapses, Leaves}

-- a crash at any moment since old leaves what has P
pub record Through (old new : Disk) (P : Snapshot → Type 0) : Type 0 where
  pub later : old.moment ≤ new.moment
  pub keeps : (t : ℕ) (s : Snapshot) → t ≤ old.moment → old.left_since t s → new.left_since t s
  pub each : (s : Snapshot) → new.left_since old.moment s → P s
  -- and for a run that began earlier
  pub before : (t : ℕ) (s : Snapshot) → t ≤ old.moment → new.left_since t s → old.left_since t s ⊎ P s
  pub tells_sent : old.tells_sent → new.tells_sent

-- no other data set changed, and nothing was sent, at any moment since old
pub record OnlyOn (set : ℕ) (old new : Disk) : Type 0 where
  pub now : Leaves set old new
  pub crash : Elapses old new (Differs old set (λ before after. Unit {0}))

-- s is a snapshot that a crash of the old disk may leave, but for these data sets
pub record DiffersIn (old : Disk) (these : ℕ → Type 0) (s : Snapshot) : Type 0 where
  pub before : Snapshot
  pub left : old.may_leave before
  pub others : (k : ℕ) → (these k → ⊥) → s.images k ≡ before.images k
  pub sent : old.tells_sent → s.sent ≡ before.sent

-- none but these data sets changed, and nothing was sent, at any moment since old
pub record OnlyIn (these : ℕ → Type 0) (old new : Disk) : Type 0 where
  pub contents : (k : ℕ) → (these k → ⊥) → new.contents k ≡ old.contents k
  pub sent : new.sent ≡ old.sent
  pub crash : Elapses old new (DiffersIn old these)
