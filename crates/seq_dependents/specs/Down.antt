-- A root's sequential dependents, from the newest down.
use Rattle.std.specs.Prelude.{◌≡◌, ℕ, List, [], ◌∷◌}
use Rattle.fp_model.specs.declared.database.SeqItem.{SeqItem}
use Rattle.seq_dependents.specs.declared.part.Part.{Part}
use Rattle.seq_dependents.specs.Slots.{IsHeld}
use Rattle.seq_dependents.specs.Control.{IsKept}

-- this serial is kept and its slot holds the item, and a previous serial
pub record IsItem (part : Part) (area : List (List ℕ)) (serial previous : ℕ) (item : SeqItem) : Type 0 where
  pub is_kept : IsKept area serial
  pub is_serial : item.serial ≡ serial
  pub is_held : IsHeld part area serial previous item.bytes

-- the items are those of this serial, its previous serial and so on, down to the first serial that isn't
-- kept: one below begin, or 0
abbrev pub IsDown : Part → List (List ℕ) → ℕ → List SeqItem → Type 0
IsDown part area serial [] = ¬ IsKept area serial
IsDown part area serial (item ∷ items) =
    (previous : ℕ) × IsItem part area serial previous item × IsDown part area previous items
