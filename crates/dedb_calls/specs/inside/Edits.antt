-- Replacements and deletions: what is chosen for the segment that is held.
use Rattle.std.specs.Prelude.{◌≡◌, ℕ, List, Bool, true, false, Option, Some, None}
use Rattle.fp_model.specs.declared.definitions.DedbDef.{DedbDef}
use Rattle.fp_model.specs.DedbCalls.{key_of_path, type_of_path}
use Rattle.fp_model.specs.Order.{Place, Step, key_in}
use Rattle.fp_model.specs.Texts.{same_text}
use Rattle.dedb_calls.specs.declared.edits.Chosen.{Chosen}
use Rattle.dedb_calls.specs.declared.edits.Chosen.TheVariants as chosen

-- bytes have the key of the segment at the end of a path
abbrev pub fits_key : DedbDef → ℕ → List ℕ → List Step → Bool
fits_key def dedb bytes path =
    same_text (key_in def.segments (type_of_path def dedb path) bytes) (key_of_path def dedb path)

-- a place that is held, whose anchor is locked or not
pub record IsHeldSo (held : Option Place) (is_locked : ℕ → Bool) (locked : Bool) (place : Place) : Type 0 where
  pub its : held ≡ Some place
  pub lock : is_locked place.anchor ≡ locked

-- what becomes of a replacement or a deletion, by the place that is held, the locks, and whether its segment is
-- sequential
abbrev pub HasChosen : Chosen → Option Place → (ℕ → Bool) → (List Step → Bool) → Type 0
HasChosen chosen.NotHeld held is_locked sequential = held ≡ None
HasChosen (chosen.Unlocked anchor) held is_locked sequential =
    (place : Place) × IsHeldSo held is_locked false place × (anchor ≡ place.anchor)
HasChosen chosen.Sequential held is_locked sequential =
    (place : Place) × IsHeldSo held is_locked true place × (sequential place.path ≡ true)
HasChosen chosen.Direct held is_locked sequential =
    (place : Place) × IsHeldSo held is_locked true place × (sequential place.path ≡ false)
