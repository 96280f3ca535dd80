-- The text of the log: a line for each group, and behind it a line for each of its entries.
use Rattle.std.specs.Prelude.{ℕ, ◌+◌, List, [], ◌∷◌, ◌++◌, length, map, codes}
use Rattle.std.specs.List.{join_with_byte}
use Rattle.std.specs.Fmt.{decimal}
use Rattle.fp_model.specs.declared.log.Outcome.{Outcome}
use Rattle.fp_model.specs.declared.log.Outcome.TheVariants.{Done, Verify, Roll, SeqFull, Deadlock, Device, Memory, Unknown, Purge, Old, Repeat, Format}
use Rattle.fp_model.specs.declared.log.Entry.{Entry}
use Rattle.fp_show.specs.FieldText.{line, shown, hex}

-- a dash in place of nothing
abbrev pub or_dash : List ℕ → List ℕ
or_dash [] = codes "-"
or_dash (b ∷ bs) = b ∷ bs

-- numbers with commas between them
abbrev pub comma_text : List ℕ → List ℕ
comma_text numbers = join_with_byte 44 (map decimal numbers)

-- how a transaction ended: a word, and what the log has beside it; a Repeat's kept line isn't told
abbrev pub outcome_text : Outcome → List ℕ
outcome_text Done = codes "DONE"
outcome_text (Verify call fsa found) =
    codes "VERIFY " ++ decimal call ++ codes "." ++ decimal fsa ++ codes " " ++ or_dash (hex found)
outcome_text (Roll code) = codes "ROLB " ++ decimal code
outcome_text (SeqFull set begin end n) =
    codes "SEQFULL " ++ decimal set ++ codes " " ++ decimal begin ++ codes " " ++ decimal end ++ codes " " ++ decimal n
outcome_text (Deadlock regions) = codes "DEADLOCK " ++ comma_text regions
outcome_text Device = codes "DEVICE"
outcome_text Memory = codes "MEMORY"
outcome_text Unknown = codes "UNKNOWN"
outcome_text (Old last) = codes "OLD " ++ decimal last
outcome_text (Repeat kept) = codes "REPEAT"
outcome_text Format = codes "FORMAT 2"
outcome_text (Purge set n) = codes "PURGE " ++ decimal set ++ codes " " ++ decimal n

-- an entry's notes, or a dash where it has none
abbrev pub notes_text : List ℕ → List ℕ
notes_text [] = codes "-"
notes_text (note ∷ notes) = comma_text (note ∷ notes)

-- what an entry's line begins with: its place in the log, where its transaction began, and its notes
abbrev pub entry_front : ℕ → Entry → List ℕ
entry_front place e =
    decimal place ++ codes " from " ++ decimal e.from ++ codes " notes " ++ notes_text e.notes ++ codes " "

-- and what it ends with: the outcome, the message line and the reply
abbrev pub entry_back : Entry → List ℕ
entry_back e =
    outcome_text e.outcome ++ codes " " ++ or_dash (shown e.line) ++ codes " => " ++ or_dash e.reply

abbrev pub entry_line : ℕ → Entry → List ℕ
entry_line place e = line (entry_front place e ++ entry_back e)

-- entries, from a place in the log on
abbrev pub entries_text : ℕ → List Entry → List ℕ
entries_text place [] = []
entries_text place (e ∷ es) = entry_line place e ++ entries_text (place + 1) es

-- a group's number, and how many entries it has
abbrev pub group_head : ℕ → ℕ → List ℕ
group_head number entries = line (codes "group " ++ decimal number ++ codes " entries " ++ decimal entries)

-- a group, whose first entry stands at a place in the log
abbrev pub group_text : ℕ → ℕ → List Entry → List ℕ
group_text number first entries = group_head number (length entries) ++ entries_text first entries
