-- Messages with numbers, the logs that they lead to, and the entries that no transaction makes there.
use Rattle.std.specs.Prelude.{ℕ, List, [], ◌∷◌, codes, Option}
use Rattle.fp_model.specs.declared.calls.Message.{Message}
use Rattle.fp_model.specs.declared.log.Entry.{Entry}
use Rattle.fp_model.specs.declared.log.Outcome.{Outcome}
use Rattle.fp_model.specs.declared.log.Outcome.TheVariants.{Done, Unknown, Old, Repeat, Format}
use Rattle.fp_model.specs.History.{History, beginning, with_entry}
use Rattle.fp_model.specs.Lasts.{Last}
use Rattle.fp_rows.specs.Hex.{named}
use Rattle.fp_rows.specs.Sample.{deposit}
use Rattle.fp_rows.specs.States.{at_start, with_balance}

-- a line of T1 that asks for the balance of A001, perhaps by a number
abbrev pub asking : List ℕ → Option ℕ → Message
asking line number =
    record { lterm = named (codes "T1"); tran = named (codes "ASK"); text = codes "A001"; line = line; number = number }

-- an entry that no region makes, at its place
abbrev pub made_at : ℕ → List ℕ → Outcome → Entry
made_at place line outcome =
    record { from = place; outcome = outcome; line = line; reply = []; notes = []; items = [] }

-- the deposit, to which T1 gave the number 1
abbrev pub deposit_one : Entry
deposit_one = record deposit { line = codes "T1 1 DEPOSIT A001 10" }

-- a log of format 2 that has no other entry
abbrev pub behind_one : History
behind_one = with_entry deposit_one (with_balance (codes "0000110c")) (beginning 2 at_start)

-- T1's next message, of number 3, which looked at the state behind one entry
abbrev pub asking_three : Entry
asking_three =
    record { from = 1; outcome = Done; line = codes "T1 3 ASK A001"; reply = codes "110"; notes = 1 ∷ []; items = [] }

-- the same log behind it
abbrev pub behind_three : History
behind_three = with_entry asking_three behind_one.now behind_one

-- a number below the last one, at place 3
abbrev pub old_two : Entry
old_two = made_at 3 (codes "T1 2 ASK A001") (Old 3)

-- the deposit's line once more, at place 1
abbrev pub repeated_one : Entry
repeated_one = made_at 1 deposit_one.line (Repeat (codes "T1 OK NEW"))

-- the change of formats, at place 1
abbrev pub format_two : Entry
format_two = made_at 1 [] Format

-- the log behind that one's repeat, and behind a number 5 that named no script
abbrev pub behind_repeat : History
behind_repeat = with_entry repeated_one behind_one.now behind_one

abbrev pub behind_unknown : History
behind_unknown = with_entry (made_at 1 (codes "T1 5 NOSUCH") Unknown) behind_one.now behind_one

-- a log of format 1 behind the deposit without a number, and behind the change of formats
abbrev pub behind_deposit : History
behind_deposit = with_entry deposit (with_balance (codes "0000110c")) (beginning 1 at_start)

abbrev pub behind_format : History
behind_format = with_entry format_two behind_deposit.now behind_deposit

-- the lines of the next run, and what they come to there: the repeat, the balance by number 3, and the old number
abbrev pub three_lines : List (List ℕ)
three_lines = codes "T1 1 DEPOSIT A001 10" ∷ codes "T1 3 ASK A001" ∷ codes "T1 2 ASK A001" ∷ []

abbrev pub entries_of_both_runs : List Entry
entries_of_both_runs =
    deposit_one ∷ repeated_one ∷ record asking_three { from = 2; notes = 2 ∷ [] } ∷ old_two ∷ []

-- a terminal's last number, and the line that it was sent
abbrev pub last_number : List ℕ → ℕ → List ℕ → Last
last_number letters number line = record { lterm = named letters; number = number; line = line }
