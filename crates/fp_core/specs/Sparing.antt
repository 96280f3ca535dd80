-- That other data sets stay, whatever the log holds.
use Rattle.std.specs.Prelude.{◌≡◌, ⊤, ℕ}
use Rattle.fp_model.specs.declared.events.Event.{Event}
use Rattle.fp_model.specs.declared.events.Event.TheVariants as event
use Rattle.fp_site.specs.Disk.{Disk, Snapshot}
use Rattle.fp_site.specs.Moments.{Through}

-- the other data sets are those of a snapshot that a crash of the old disk may leave
pub record HasOthers (these : ℕ → Type 0) (old : Disk) (s : Snapshot) : Type 0 where
  pub before : Snapshot
  pub left : old.may_leave before
  pub same : (set : ℕ) → ¬ these set → s.images set ≡ before.images set

-- no other data sets than these change, now and at every moment, whatever is sent
pub record Spares (these : ℕ → Type 0) (old new : Disk) : Type 0 where
  pub contents : (set : ℕ) → ¬ these set → new.contents set ≡ old.contents set
  pub moments : Through old new (HasOthers these old)

-- the log alone
abbrev pub IsLogSet : ℕ → Type 0
IsLogSet set = set ≡ 0

-- the events that make calls on the site
abbrev pub IsSealing : Event → Type 0
IsSealing event.Log = ⊤
IsSealing event.Ckpt = ⊤
IsSealing _ = ⊥
