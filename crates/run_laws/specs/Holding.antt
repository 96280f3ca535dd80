-- The places of segments that are held in data entry databases, and the locks of their anchors.
use Rattle.std.specs.Prelude.{◌≡◌, ℕ, true, if◌then◌else◌, Option, Some, None, slice_get, unwrap_or}
use Rattle.fp_model.specs.declared.calls.Mode.{Mode}
use Rattle.fp_model.specs.declared.calls.Mode.TheVariants.{Exclusive}
use Rattle.fp_model.specs.declared.calls.Resource.{Resource}
use Rattle.fp_model.specs.declared.calls.Resource.TheVariants.{Anchor}
use Rattle.fp_model.specs.Answers.{serves}
use Rattle.fp_model.specs.Order.{Place}
use Rattle.fp_model.specs.Workspace.{DedbPosition, Workspace, no_dedb_position}

-- the place that is held, if the last call to the database was a hold get that found it
abbrev pub place_held : Workspace → ℕ → Option Place
place_held own dedb =
    let p : DedbPosition = unwrap_or (slice_get own.dedbs dedb) no_dedb_position in
    if p.held then p.place else None

-- The anchor of each place that is held is locked Exclusive.
abbrev pub AreHeldLocked : (Resource → Option Mode) → Workspace → Type 0
AreHeldLocked held own =
    (dedb : ℕ) (place : Place) → place_held own dedb ≡ Some place
    → serves (held (Anchor dedb place.anchor)) Exclusive ≡ true
