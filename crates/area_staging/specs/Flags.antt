-- Which intervals items name have a flag, and which have an item since the mark behind them.
use Rattle.std.specs.Prelude.{◌≡◌, ⊤, ℕ, ◌≤◌, ◌||◌, Bool, List}
use Rattle.std.specs.List.{AllByRecursion}
use Rattle.fp_model.specs.State.{first_area_set}
use Rattle.fp_model.specs.declared.log.Item.{Item}
use Rattle.fp_model.specs.declared.log.Item.TheVariants.{Segment, Image, Range}
use Rattle.area_redo.specs.Redo.{names}
use Rattle.area_staging.specs.Items.{HasFlag, is_imaged}

-- the interval that an item names is one of an area, and has a flag
abbrev pub IsFlagged : List (List Bool) → Item → Type 0
IsFlagged imaged (Segment msdb key bytes) = ⊤
IsFlagged imaged (Image set ci bytes) = (first_area_set ≤ set) × HasFlag imaged set ci
IsFlagged imaged (Range set ci at bytes) = (first_area_set ≤ set) × HasFlag imaged set ci

abbrev pub AreFlagged : List (List Bool) → List Item → Type 0
AreFlagged imaged items = AllByRecursion (IsFlagged imaged) items

-- the intervals with an item since the mark are those from before and those that these items name
abbrev pub AreNoted : List Item → List (List Bool) → List (List Bool) → Type 0
AreNoted items before after =
    (set ci : ℕ) → is_imaged after set ci ≡ (names set ci items || is_imaged before set ci)
