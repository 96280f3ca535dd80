-- How many bytes the parts of an entry have in the log.
use Rattle.std.specs.Prelude.{ℕ, ◌+◌, ◌*◌, List, length}
use Rattle.std.specs.List.{sum_by}
use Rattle.fp_model.specs.declared.log.Item.{Item}
use Rattle.fp_model.specs.declared.log.Item.TheVariants.{Segment, Image, Range}
use Rattle.fp_model.specs.declared.log.Outcome.{Outcome}
use Rattle.fp_model.specs.declared.log.Outcome.TheVariants as outcome
use Rattle.fp_model.specs.declared.log.Entry.{Entry}

-- a text of so many bytes behind its length in one byte, and in two
abbrev pub short_size : List ℕ → ℕ
short_size text = 1 + length text

abbrev pub long_size : List ℕ → ℕ
long_size text = 2 + length text

-- an outcome's code and detail
abbrev pub outcome_size : Outcome → ℕ
outcome_size outcome.Done = 1
outcome_size (outcome.Verify call fsa found) = 7 + long_size found
outcome_size (outcome.Roll code) = 3
outcome_size (outcome.SeqFull set begin end n) = 27
outcome_size (outcome.Deadlock cycle) = 1 + short_size cycle
outcome_size outcome.Device = 1
outcome_size outcome.Memory = 1
outcome_size outcome.Unknown = 1
outcome_size (outcome.Purge set n) = 11
outcome_size (outcome.Old last) = 9
outcome_size (outcome.Repeat line) = 1 + long_size line
outcome_size outcome.Format = 1

-- an item
abbrev pub item_size : Item → ℕ
item_size (Segment msdb key bytes) = 2 + short_size key + long_size bytes
item_size (Image set ci bytes) = 11 + long_size bytes
item_size (Range set ci at bytes) = 13 + long_size bytes

-- numbers of eight bytes behind their count
abbrev pub notes_size : List ℕ → ℕ
notes_size notes = 4 + 8 * length notes

-- items behind their count
abbrev pub items_size : List Item → ℕ
items_size items = 4 + sum_by item_size items

-- an entry without its length
abbrev pub rest_size : Entry → ℕ
rest_size e = 8 + outcome_size e.outcome + long_size e.line + long_size e.reply + notes_size e.notes + items_size
    e.items
