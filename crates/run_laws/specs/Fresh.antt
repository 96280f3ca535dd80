-- Messages that are fresh, and numbers of terminals.
use Rattle.std.specs.Prelude.{◌≡◌, ℕ, ◌<◌, List, take, true, is_some, Option, Some, Ok, slice_get}
use Rattle.fp_model.specs.declared.calls.Message.{Message}
use Rattle.fp_model.specs.declared.log.Entry.{Entry}
use Rattle.fp_model.specs.declared.name.Name.{Name}
use Rattle.fp_model.specs.declared.scripts.Script.{Script}
use Rattle.fp_model.specs.Asking.{script_of}
use Rattle.fp_model.specs.History.{History}
use Rattle.fp_model.specs.Lasts.{Last, format_at, uses_number, lasts_of, last_of}
use Rattle.fp_model.specs.Messages.{message_of}
use Rattle.fp_model.specs.ReplyLine.{line_text}

-- the last number of a terminal behind a history, if it used one
abbrev pub last_behind : History → Name → Option Last
last_behind h name = last_of name (lasts_of h.format h.entries)

-- The message is what its line says in the format there, names a script, and has no number or one above the last one of
-- its terminal.
pub record IsFresh (scripts : List Script) (h : History) (message : Message) : Type 0 where
  pub reads : message_of (format_at h.format h.entries) message.line ≡ Ok message
  pub names : is_some (script_of scripts message.tran) ≡ true
  pub above : (number : ℕ) (last : Last)
      → message.number ≡ Some number
      → last_behind h message.lterm ≡ Some last
      → last.number < number

-- The entry at a place, behind a front of this format, answers this number of this terminal.
pub record IsNumbered (format : ℕ) (entries : List Entry) (place : ℕ) (e : Entry) (name : Name)
    (number : ℕ) : Type 0 where
  pub stands : slice_get entries place ≡ Some e
  pub message : Message
  pub reads : message_of (format_at format (take place entries)) e.line ≡ Ok message
  pub is_from : message.lterm ≡ name
  pub has : message.number ≡ Some number

-- An entry before the place answers the number too. It used the number up, and its terminal got this line.
pub record WasUsed (format : ℕ) (entries : List Entry) (place : ℕ) (name : Name) (number : ℕ)
    (line : Option (List ℕ)) : Type 0 where
  pub earlier : ℕ
  pub entry : Entry
  pub is_before : earlier < place
  pub numbered : IsNumbered format entries earlier entry name number
  pub uses : uses_number entry.outcome ≡ true
  pub same_line : line_text entry ≡ line
