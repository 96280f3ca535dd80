-- Message numbers: the format in which a line is read, and the last number of each terminal.
use Rattle.std.specs.Prelude.{ℕ, List, [], ◌∷◌, Bool, true, false, if◌then◌else◌, fold, find, Option, None, Result, Ok, Err, option_map, unwrap_or}
use Rattle.std.specs.Option.{option_map_or}
use Rattle.fp_model.specs.declared.name.Name.{Name}
use Rattle.fp_model.specs.declared.calls.Message.{Message}
use Rattle.fp_model.specs.declared.log.Outcome.{Outcome}
use Rattle.fp_model.specs.declared.log.Outcome.TheVariants.{Old, Repeat, Format}
use Rattle.fp_model.specs.declared.log.Entry.{Entry}
use Rattle.fp_model.specs.Texts.{same_text}
use Rattle.fp_model.specs.State.{put_by_key, drop_key}
use Rattle.fp_model.specs.Messages.{MessageFault, message_of}
use Rattle.fp_model.specs.ReplyLine.{line_text}

-- the format behind an entry: a Format entry makes it 2
abbrev pub format_behind : ℕ → Outcome → ℕ
format_behind format Format = 2
format_behind format _ = format

-- the format behind entries, of which the first is read in a given one
abbrev pub format_at : ℕ → List Entry → ℕ
format_at format entries = fold (λ before e. format_behind before e.outcome) format entries

-- The last number that a terminal used, and the reply line that it got, without the newline.
pub record Last : Type 0 where
  pub lterm : Name
  pub number : ℕ
  pub line : List ℕ

-- Old and Repeat answer a number that isn't above the last one; whatever else answers a numbered message uses its
-- number.
abbrev pub uses_number : Outcome → Bool
uses_number (Old last) = false
uses_number (Repeat line) = false
uses_number _ = true

abbrev pub last_of_message : List ℕ → Message → Option Last
last_of_message line message =
    option_map (λ number. record { lterm = message.lterm; number = number; line = line }) message.number

abbrev pub last_in : List ℕ → Result Message MessageFault → Option Last
last_in line (Err fault) = None
last_in line (Ok message) = last_of_message line message

-- the number that an entry uses up, whose line is read in a format
abbrev pub last_by : ℕ → Entry → Option Last
last_by format e =
    if uses_number e.outcome then last_in (unwrap_or (line_text e) []) (message_of format e.line) else None

-- in place of that of its terminal; terminals ascend by name
abbrev pub with_last : Last → List Last → List Last
with_last last lasts = put_by_key (λ l. l.lterm.0) last (drop_key (λ l. l.lterm.0) last.lterm.0 lasts)

-- with the numbers of entries, of which the first is read in a format
abbrev pub lasts_behind : ℕ → List Entry → List Last → List Last
lasts_behind format [] lasts = lasts
lasts_behind format (e ∷ es) lasts =
    lasts_behind (format_behind format e.outcome) es
    (option_map_or (λ last. with_last last lasts) (last_by format e) lasts)

-- the last number of each terminal that used one
abbrev pub lasts_of : ℕ → List Entry → List Last
lasts_of format entries = lasts_behind format entries []

-- that of a terminal
abbrev pub last_of : Name → List Last → Option Last
last_of name lasts = find (λ last. same_text last.lterm.0 name.0) lasts
