-- Cells: what a pool holds of intervals beside the data sets' bytes, as its clauses read it. They ascend by data set
-- and number.
use Rattle.std.specs.Prelude.{ℕ, ◌+◌, Bool, ◌&&◌, ◌||◌, ◌==◌, nat_lt, if◌then◌else◌, List, [], ◌∷◌, Option, Some, None, is_some}
use Rattle.ci_pool.specs.declared.cell.Cell.{Cell}
use Rattle.ci_pool.specs.declared.cell.Waiting.{Waiting}

-- the first interval comes before the second: by data set, then by number
abbrev pub comes_before : ℕ → ℕ → ℕ → ℕ → Bool
comes_before s k set ci = nat_lt s set || (s == set && nat_lt k ci)

abbrev pub is_of : ℕ → ℕ → Cell → Bool
is_of set ci cell = cell.set == set && cell.ci == ci

-- what cells have of an interval
abbrev pub cell_at : ℕ → ℕ → List Cell → Option Cell
cell_at set ci [] = None
cell_at set ci (cell ∷ cells) = if is_of set ci cell then Some cell else cell_at set ci cells

-- how an interval waits once bytes of it are published for the entry at a place
abbrev pub renewed : ℕ → List ℕ → Option Waiting → Waiting
renewed place bytes None = record { oldest = place; newest = place; bytes = bytes }
renewed place bytes (Some waiting) = record { oldest = waiting.oldest; newest = place; bytes = bytes }

abbrev pub renewed_by : ℕ → Option (List ℕ) → Option Waiting → Option Waiting
renewed_by place None waiting = waiting
renewed_by place (Some bytes) waiting = Some (renewed place bytes waiting)

-- how many cells wait
abbrev pub waiting_number : Cell → ℕ
waiting_number cell = if is_some cell.waiting then 1 else 0

abbrev pub pending_number : List Cell → ℕ
pending_number [] = 0
pending_number (cell ∷ cells) = waiting_number cell + pending_number cells

-- intervals, by data set and number, and their bytes
abbrev pub Listed : Type 0
Listed = List ((ℕ × ℕ) × List ℕ)

abbrev pub is_key : ℕ → ℕ → ℕ × ℕ → Bool
is_key set ci key = set == key.0 && ci == key.1
