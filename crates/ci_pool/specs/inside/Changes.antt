-- What bodies and proofs need of Changes, beside what contracts say.
use Rattle.std.specs.Prelude.{ℕ, Bool, false, ◌&&◌, not, nat_lt, nat_le, if◌then◌else◌, List, [], ◌∷◌, Option, Some, None, is_some}
use Rattle.std.specs.Map.{remove_entry}
use Rattle.ci_pool.specs.declared.cell.Cell.{Cell}
use Rattle.ci_pool.specs.declared.cell.Waiting.{Waiting}
use Rattle.ci_pool.specs.Cells.{comes_before, is_of, renewed_by, Listed, is_key}
use Rattle.ci_pool.specs.Changes.{is_staged}

-- a cell once what is staged is published for the entry at a place
abbrev pub published : ℕ → Cell → Cell
published place cell =
    record { set = cell.set; ci = cell.ci; waiting = renewed_by place cell.staged cell.waiting; staged = None }

-- a cell once what is staged is dropped
abbrev pub unstaged : Cell → Cell
unstaged cell = record { set = cell.set; ci = cell.ci; waiting = cell.waiting; staged = None }

-- a cell once its interval is written
abbrev pub after_write : Cell → Cell
after_write cell = record { set = cell.set; ci = cell.ci; waiting = None; staged = cell.staged }

-- a cell once these bytes are staged
abbrev pub staged_with : List ℕ → Cell → Cell
staged_with bytes cell = record { set = cell.set; ci = cell.ci; waiting = cell.waiting; staged = Some bytes }

-- it owes a change of an entry below the count, and its newest change is below the number of sealed entries
abbrev pub may_pay_by : ℕ → ℕ → Option Waiting → Bool
may_pay_by count sealed None = false
may_pay_by count sealed (Some waiting) = nat_lt waiting.oldest count && nat_lt waiting.newest sealed

abbrev pub may_pay : ℕ → ℕ → Cell → Bool
may_pay count sealed cell = may_pay_by count sealed cell.waiting

-- it waits for no entry behind this one
abbrev pub waits_by : ℕ → Option Waiting → Bool
waits_by newest None = false
waits_by newest (Some waiting) = nat_le waiting.newest newest

abbrev pub waits_up_to : ℕ → Cell → Bool
waits_up_to newest cell = waits_by newest cell.waiting

-- it is there for staged bytes alone
abbrev pub is_only_staged : Cell → Bool
is_only_staged cell = is_some cell.staged && not (is_some cell.waiting)

-- the first cell that passes
abbrev pub first_by : (Cell → Bool) → List Cell → Option Cell
first_by test [] = None
first_by test (cell ∷ cells) = if test cell then Some cell else first_by test cells

-- the cells without that of an interval
abbrev pub without : ℕ → ℕ → List Cell → List Cell
without set ci [] = []
without set ci (cell ∷ cells) = if is_of set ci cell then cells else cell ∷ without set ci cells

-- the cells with one more, in its place
abbrev pub with_cell : Cell → List Cell → List Cell
with_cell new [] = new ∷ []
with_cell new (cell ∷ cells) = if comes_before cell.set cell.ci new.set new.ci then cell ∷ with_cell new cells else new
    ∷ cell ∷ cells

-- the cells once what is staged is published for the entry at a place
abbrev pub all_published : ℕ → List Cell → List Cell
all_published place [] = []
all_published place (cell ∷ cells) = published place cell ∷ all_published place cells

-- the cells once what is staged is dropped
abbrev pub all_unstaged : List Cell → List Cell
all_unstaged [] = []
all_unstaged (cell ∷ cells) = if is_only_staged cell then all_unstaged cells else unstaged cell ∷ all_unstaged cells

-- what is left of a cell once what is staged is dropped, and once its interval is written
abbrev pub unstaged_by : Option Cell → Option Cell
unstaged_by None = None
unstaged_by (Some cell) = if is_only_staged cell then None else Some (unstaged cell)

abbrev pub after_write_by : Option Cell → Option Cell
after_write_by None = None
after_write_by (Some cell) = if is_staged cell then Some (after_write cell) else None

-- the cell of an interval with these bytes staged, by the one that was
abbrev pub staged_cell : ℕ → ℕ → List ℕ → Option Cell → Cell
staged_cell set ci bytes None = record { set = set; ci = ci; waiting = None; staged = Some bytes }
staged_cell set ci bytes (Some cell) = staged_with bytes cell

-- listed intervals without those of which bytes are staged
abbrev pub unlisted_one : Cell → Listed → Listed
unlisted_one cell listed = if is_staged cell then remove_entry (is_key cell.set cell.ci) listed else listed

abbrev pub unlisted : List Cell → Listed → Listed
unlisted [] listed = listed
unlisted (cell ∷ cells) listed = unlisted cells (unlisted_one cell listed)
