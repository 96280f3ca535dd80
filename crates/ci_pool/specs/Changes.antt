-- What the calls inside the pool make of cells in order, and what they look for among them.
use Rattle.std.specs.Prelude.{ℕ, ◌-◌, ◌^◌, min, Bool, false, ◌||◌, List, [], ◌∷◌, Option, Some, None, is_some, IsTrue}
use Rattle.ci_pool.specs.declared.cell.Cell.{Cell}
use Rattle.ci_pool.specs.declared.cell.Waiting.{Waiting}
use Rattle.ci_pool.specs.Cells.{comes_before}

abbrev pub is_staged : Cell → Bool
is_staged cell = is_some cell.staged

-- each cell comes before all later ones
abbrev pub AllCells : (Cell → Type 0) → List Cell → Type 0
AllCells P [] = Unit {0}
AllCells P (cell ∷ cells) = P cell × AllCells P cells

abbrev pub Follows : Cell → Cell → Type 0
Follows first second = IsTrue (comes_before first.set first.ci second.set second.ci)

abbrev pub IsAscending : List Cell → Type 0
IsAscending [] = Unit {0}
IsAscending (cell ∷ cells) = AllCells (Follows cell) cells × IsAscending cells

-- the oldest and the newest entry of what waits, and the greatest number where nothing does
abbrev pub oldest_in : Option Waiting → ℕ
oldest_in None = 2 ^ 64 - 1
oldest_in (Some waiting) = waiting.oldest

abbrev pub newest_in : Option Waiting → ℕ
newest_in None = 2 ^ 64 - 1
newest_in (Some waiting) = waiting.newest

abbrev pub oldest_of : Cell → ℕ
oldest_of cell = oldest_in cell.waiting

abbrev pub newest_of : Cell → ℕ
newest_of cell = newest_in cell.waiting

-- the least of these numbers
abbrev pub least : (Cell → ℕ) → List Cell → ℕ
least of [] = 2 ^ 64 - 1
least of (cell ∷ cells) = min (of cell) (least of cells)

abbrev pub any_staged : List Cell → Bool
any_staged [] = false
any_staged (cell ∷ cells) = is_staged cell || any_staged cells
