-- The line that a terminal is sent for an entry.
use Rattle.std.specs.Prelude.{ℕ, List, [], ◌∷◌, ◌++◌, length, ◌==◌, if◌then◌else◌, pos, codes, Option, Some, None}
use Rattle.std.specs.Option.{option_map_or}
use Rattle.fp_model.specs.Texts.{trimmed, decimal_text}
use Rattle.fp_model.specs.Messages.{terminal_of}
use Rattle.fp_model.specs.declared.name.Name.{Name}
use Rattle.fp_model.specs.declared.log.Outcome.{Outcome}
use Rattle.fp_model.specs.declared.log.Outcome.TheVariants.{Done, Verify, Roll, SeqFull, Deadlock, Device, Memory, Unknown, Purge, Old, Repeat, Format}
use Rattle.fp_model.specs.declared.log.Entry.{Entry}

-- the terminal's name, or a question mark where the line has none
abbrev pub addressee : Option Name → List ℕ
addressee None = codes "?"
addressee (Some name) = trimmed name.0

-- a reply behind a blank, or nothing where it is empty
abbrev pub behind_blank : List ℕ → List ℕ
behind_blank reply = if length reply == 0 then [] else 32 ∷ reply

-- what is sent for an outcome: words behind the terminal's name, a line that was kept, or nothing
pub data Told : Type 0 where
  Words : List ℕ → Told
  Kept : List ℕ → Told
  Nothing : Told

-- nobody is told of a Purge or a Format
abbrev pub verdict : Outcome → List ℕ → Told
verdict Done reply = Words (codes "OK" ++ behind_blank reply)
verdict (Verify call fsa found) reply = Words (codes "NO VERIFY")
verdict (Roll code) reply = Words (codes "NO ROLB " ++ decimal_text (pos code))
verdict (SeqFull set begin end n) reply = Words (codes "NO SEQFULL")
verdict (Deadlock cycle) reply = Words (codes "NO DEADLOCK")
verdict Device reply = Words (codes "NO DEVICE")
verdict Memory reply = Words (codes "NO MEMORY")
verdict Unknown reply = Words (codes "NO UNKNOWN")
verdict (Old last) reply = Words (codes "NO OLD " ++ decimal_text (pos last))
verdict (Repeat line) reply = Kept line
verdict (Purge set n) reply = Nothing
verdict Format reply = Nothing

-- the line that is sent, without its newline: to whom, a blank, and the words
abbrev pub line_for : List ℕ → Told → Option (List ℕ)
line_for terminal (Words words) = Some (terminal ++ 32 ∷ words)
line_for terminal (Kept line) = Some line
line_for terminal Nothing = None

-- the reply line of an entry without its newline; None for a Purge and a Format
abbrev pub line_text : Entry → Option (List ℕ)
line_text e = line_for (addressee (terminal_of e.line)) (verdict e.outcome e.reply)

-- the reply line of an entry; no bytes for a Purge and a Format
abbrev pub line_of : Entry → List ℕ
line_of e = option_map_or (λ text. text ++ 10 ∷ []) (line_text e) []
