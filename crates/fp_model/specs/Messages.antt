-- The lines of the part Messages, and what a line says.
use Rattle.std.specs.Prelude.{ℕ, List, [], ◌∷◌, length, Bool, not, ◌&&◌, ◌||◌, ◌==◌, nat_lt, nat_le, if◌then◌else◌, slice_get, slice_index, Option, Some, None, Result, Ok, Err, filter_map}
use Rattle.std.specs.List.{list_all, before_first, after_first, slice_split, enumerate_from}
use Rattle.std.specs.Str.Lines.{lines}
use Rattle.fp_model.specs.Texts.{digits_number, is_printable}
use Rattle.fp_model.specs.Names.{name_in}
use Rattle.fp_model.specs.declared.name.Name.{Name}
use Rattle.fp_model.specs.declared.calls.Message.{Message}

-- The lines: each ends at a newline, and loses one byte 13 directly before it. A last line without newline
-- counts, and an empty rest behind the last newline is no line.
abbrev pub lines_of : List ℕ → List (List ℕ)
lines_of bytes = lines bytes

-- all but an empty last part, which is no line
abbrev pub but_empty_last : List (List ℕ) → List (List ℕ)
but_empty_last [] = []
but_empty_last (line ∷ []) = if length line == 0 then [] else line ∷ []
but_empty_last (line ∷ next ∷ more) = line ∷ but_empty_last (next ∷ more)

-- the lines as they stand before their newlines, with the bytes 13
abbrev pub raw_lines : List ℕ → List (List ℕ)
raw_lines bytes = but_empty_last (slice_split (λ b. b == 10) bytes)

-- why a line isn't taken, with its number from 1
pub data LineFault : Type 0 where
  LineTooLong : (number : ℕ) → LineFault
  TooManyLines : (number : ℕ) → LineFault

-- why the line of this number isn't taken: it is behind the first 1,000,000, or has more than 2,100 bytes before
-- its newline
abbrev pub fault_of_line : ℕ → List ℕ → Option LineFault
fault_of_line number line =
    if nat_lt 1000000 number then Some (TooManyLines number)
    else (if nat_lt 2100 (length line) then Some (LineTooLong number) else None)

-- the fault of the first line that isn't taken, if there is one
abbrev pub line_fault : List ℕ → Option LineFault
line_fault bytes = slice_get (filter_map (λ line. fault_of_line line.0 line.1) (enumerate_from 1 (raw_lines bytes))) 0

-- ---- words

-- what separates the words of a line: a blank or a tab
abbrev pub is_separator : ℕ → Bool
is_separator b = b == 32 || b == 9

-- what stands before the first separator, or the whole where there is none
abbrev pub first_word : List ℕ → List ℕ
first_word line = before_first is_separator line

-- what stands behind the first separator, or nothing where there is none
abbrev pub behind_word : List ℕ → List ℕ
behind_word line = after_first is_separator line

-- the terminal of a line, where its first word is a name
abbrev pub terminal_of : List ℕ → Option Name
terminal_of line = name_in (first_word line)

-- ---- formats: in format 1 no line has a number, in format 2 one may stand behind the terminal

-- the number that a word is: 1 to 18 digits, the first not 0
abbrev pub message_number : List ℕ → Option ℕ
message_number word = if nat_le (length word) 18 && not (slice_index word 0 == 48) then digits_number word else None

-- the number of a line, where it has one
abbrev pub number_in_line : ℕ → List ℕ → Option ℕ
number_in_line format line = if format == 2 then message_number (first_word (behind_word line)) else None

-- what stands behind the number, or behind the terminal where the line has none
abbrev pub behind_number : Option ℕ → List ℕ → List ℕ
behind_number None line = behind_word line
behind_number (Some number) line = behind_word (behind_word line)

-- ---- messages

-- why a line is no message
pub data MessageFault : Type 0 where
  NoTerminal : MessageFault
  NoTran : MessageFault
  TooLong : MessageFault
  NotAscii : MessageFault

-- a message, where its text has at most 1,000 bytes and all are printable
abbrev pub with_fair_text : Message → Result Message MessageFault
with_fair_text message =
    if nat_lt 1000 (length message.text) then Err TooLong
    else (if list_all is_printable message.text then Ok message else Err NotAscii)

-- a line with this number, this terminal, this transaction and this text
abbrev pub message_by : List ℕ → Option ℕ → Option Name → Option Name → List ℕ → Result Message MessageFault
message_by line number None tran text = Err NoTerminal
message_by line number (Some lterm) None text = Err NoTran
message_by line number (Some lterm) (Some tran) text =
    with_fair_text (record { lterm = lterm; tran = tran; text = text; line = line; number = number })

-- the message that a line is: a terminal, perhaps a number, a transaction, and all that stands behind it is the text;
-- or the first reason that it is none
abbrev pub message_of : ℕ → List ℕ → Result Message MessageFault
message_of format line =
    let asked : List ℕ = behind_number (number_in_line format line) line in
    message_by line (number_in_line format line) (terminal_of line) (name_in (first_word asked)) (behind_word asked)
