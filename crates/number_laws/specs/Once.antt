-- Numbers are used once: which entry uses one up, and what answers the same number again.
use Rattle.std.specs.Prelude.{◌≡◌, ℕ, ◌<◌, List, take, slice_get, Ok, Some}
use Rattle.fp_model.specs.declared.calls.Message.{Message}
use Rattle.fp_model.specs.declared.log.Entry.{Entry}
use Rattle.fp_model.specs.declared.log.Outcome.TheVariants.{Repeat}
use Rattle.fp_model.specs.Lasts.{Last, format_at, last_by}
use Rattle.fp_model.specs.Messages.{message_of}

-- The entry at a place uses up a number of a terminal: its line, read in the format there, has it, and it is answered
-- neither Old nor Repeat. With it goes the entry's reply line, without the newline.
pub record Uses (format : ℕ) (entries : List Entry) (place : ℕ) (used : Last) : Type 0 where
  pub entry : Entry
  pub stands : slice_get entries place ≡ Some entry
  pub uses : last_by (format_at format (take place entries)) entry ≡ Some used

-- An entry at an earlier place used up the number of a message, and has this reply line.
pub record Repeats (format : ℕ) (entries : List Entry) (place : ℕ) (message : Message) (line : List ℕ) : Type 0 where
  pub first : ℕ
  pub used : Last
  pub uses : Uses format entries first used
  pub earlier : first < place
  pub terminal : used.lterm.0 ≡ message.lterm.0
  pub number : message.number ≡ Some used.number
  pub same : line ≡ used.line

-- At most one entry uses up a number of a terminal, and each Repeat has the reply line of the entry that used up its.
pub record IsOnce (format : ℕ) (entries : List Entry) : Type 0 where
  pub once : (first second : ℕ) (a b : Last) → Uses format entries first a → Uses format entries second b
      → a.lterm.0 ≡ b.lterm.0 → a.number ≡ b.number → second ≡ first
  pub repeats : (place : ℕ) (e : Entry) (message : Message) (line : List ℕ) → slice_get entries place ≡ Some e
      → message_of (format_at format (take place entries)) e.line ≡ Ok message → e.outcome ≡ Repeat line
      → Repeats format entries place message line
