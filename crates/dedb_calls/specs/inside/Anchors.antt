-- What bodies and proofs need of Anchors, beside what contracts say.
use Rattle.std.specs.Prelude.{◌≡◌, ℕ, List, length, true, false, ◌&&◌, ◌==◌, Some}
use Rattle.std.specs.List.{AllWithin}
use Rattle.fp_model.specs.declared.database.Root.{Root}
use Rattle.fp_model.specs.Workspace.{put_change}
use Rattle.dedb_calls.specs.declared.anchors.HeldAnchor.{HeldAnchor}
use Rattle.dedb_calls.specs.Anchors.{stands_before, Ascend, held_at, changes_in}

-- the anchor's place among them: those in front stand before it, and those from there on don't
abbrev pub IsPlaceOf : ℕ → ℕ → List HeldAnchor → ℕ → Type 0
IsPlaceOf dedb anchor anchors n =
    AllWithin (λ a. stands_before dedb anchor a ≡ true) anchors 0 n
    × AllWithin (λ a. stands_before dedb anchor a ≡ false) anchors n (length anchors)

-- what an edit leaves: other roots at the anchor, which count as changed
pub record IsEdited (dedb anchor : ℕ) (roots : List Root) (old new : List HeldAnchor) : Type 0 where
  pub order : Ascend new
  pub there : held_at new dedb anchor
      ≡ Some (record { dedb = dedb; anchor = anchor; roots = roots; is_changed = true })
  pub others : (d a : ℕ) → (d == dedb && a == anchor) ≡ false → held_at new d a ≡ held_at old d a
  pub changes : changes_in new ≡ put_change (record { dedb = dedb; anchor = anchor; roots = roots }) (changes_in old)
