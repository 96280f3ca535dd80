-- What every call of a device says, whatever it answers. A device is a source or a site.
use Rattle.std.specs.Prelude.{◌≡◌, ℕ, ◌≤◌}

-- By what is told and by the numbers: calls were made of a device, and it is the same one.
pub record IsContinued {X : Type 0} (told : X → Type 0) (faults : X → ℕ) (holds : X → ℕ) (keeps : X → X → Type 0)
    (old new : X) : Type 0 where
  -- no fault is forgotten
  pub later : faults old ≤ faults new
  -- what is told once is told from then on
  pub still_told : told old → told new
  -- it holds the reference that it held
  pub reference : holds new ≡ holds old
  -- what was known of it since some earlier moment still is
  pub kept : (first : X) → keeps first old → keeps first new
