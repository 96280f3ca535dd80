-- What an answer says of the line that it was read from.
use Rattle.std.proofs.Common.{◌≡◌, refl, ◌∙◌, rules, ℕ, ◌<◌, ◌≤◌, ◌↔◌, List, length, true, false, Option, Some, None}
use Rattle.std.specs.Prelude.{Result, Ok, Err, IfOk, IsOk, IsErrOf}
use Rattle.std.specs.Result.{IsErrAnd}
use Rattle.std.specs.List.{list_all}
use Rattle.fp_model.specs.declared.calls.Message.{Message}
use Rattle.fp_model.specs.declared.name.Name.{Name}
use Rattle.fp_model.specs.Texts.{is_printable}
use Rattle.fp_model.specs.Names.{name_in}
use Rattle.fp_model.specs.Messages as messages
use Rattle.fp_model.specs.Messages.{message_of, message_by, terminal_of, number_in_line, behind_number, first_word, behind_word}
use Rattle.fp_messages.specs.declared.message.MessageFault.{MessageFault}
use Rattle.fp_messages.specs.declared.message.MessageFault.TheVariants as fault

-- what an answer says, by its kind
abbrev pub IsReadAs : Result Message MessageFault → Result Message messages.MessageFault → Type 0
IsReadAs (Ok message) read = read ≡ Ok message
IsReadAs (Err fault.NoTerminal) read = read ≡ Err messages.NoTerminal
IsReadAs (Err fault.NoTran) read = read ≡ Err messages.NoTran
IsReadAs (Err fault.TooLong) read = read ≡ Err messages.TooLong
IsReadAs (Err fault.NotAscii) read = read ≡ Err messages.NotAscii
IsReadAs (Err fault.Memory) read = (message : Message) × (read ≡ Ok message)

-- the same, as callers are told it
pub record Told (r : Result Message MessageFault) (read : Result Message messages.MessageFault) : Type 0 where
  pub ok : IfOk r (λ message. read ≡ Ok message)
  pub no_terminal : IsErrOf r fault.NoTerminal ↔ (read ≡ Err messages.NoTerminal)
  pub no_tran : IsErrOf r fault.NoTran ↔ (read ≡ Err messages.NoTran)
  pub too_long : IsErrOf r fault.TooLong ↔ (read ≡ Err messages.TooLong)
  pub not_ascii : IsErrOf r fault.NotAscii ↔ (read ≡ Err messages.NotAscii)
  pub memory : IsErrOf r fault.Memory → IsOk read

pub told : (r : Result Message MessageFault) (read : Result Message messages.MessageFault) → IsReadAs r read
    → Told r read
told (Ok message) read is = record {
  ok = is;
  no_terminal = (λ e. absurd cc, λ e. absurd cc);
  no_tran = (λ e. absurd cc, λ e. absurd cc);
  too_long = (λ e. absurd cc, λ e. absurd cc);
  not_ascii = (λ e. absurd cc, λ e. absurd cc);
  memory = λ e. absurd cc;
}
told (Err fault.NoTerminal) read is = record {
  ok = tt;
  no_terminal = (λ e. is, λ e. refl);
  no_tran = (λ e. absurd cc, λ e. absurd cc);
  too_long = (λ e. absurd cc, λ e. absurd cc);
  not_ascii = (λ e. absurd cc, λ e. absurd cc);
  memory = λ e. absurd cc;
}
told (Err fault.NoTran) read is = record {
  ok = tt;
  no_terminal = (λ e. absurd cc, λ e. absurd cc);
  no_tran = (λ e. is, λ e. refl);
  too_long = (λ e. absurd cc, λ e. absurd cc);
  not_ascii = (λ e. absurd cc, λ e. absurd cc);
  memory = λ e. absurd cc;
}
told (Err fault.TooLong) read is = record {
  ok = tt;
  no_terminal = (λ e. absurd cc, λ e. absurd cc);
  no_tran = (λ e. absurd cc, λ e. absurd cc);
  too_long = (λ e. is, λ e. refl);
  not_ascii = (λ e. absurd cc, λ e. absurd cc);
  memory = λ e. absurd cc;
}
told (Err fault.NotAscii) read is = record {
  ok = tt;
  no_terminal = (λ e. absurd cc, λ e. absurd cc);
  no_tran = (λ e. absurd cc, λ e. absurd cc);
  too_long = (λ e. absurd cc, λ e. absurd cc);
  not_ascii = (λ e. is, λ e. refl);
  memory = λ e. absurd cc;
}
told (Err fault.Memory) read (message, is) = record {
  ok = tt;
  no_terminal = (λ e. absurd cc, λ e. absurd cc);
  no_tran = (λ e. absurd cc, λ e. absurd cc);
  too_long = (λ e. absurd cc, λ e. absurd cc);
  not_ascii = (λ e. absurd cc, λ e. absurd cc);
  memory = λ e. rw is refl;
}

-- where memory is wanted for a message
pub wanted : (r : Result Message MessageFault) (read : Result Message messages.MessageFault) (message : Message)
    → IsErrAnd r (λ e. e ≡ fault.Memory) → read ≡ Ok message → IsReadAs r read
wanted (Ok m) read message memory is = absurd memory
wanted (Err y) read message memory is = rw memory (message, is)

-- a line without a terminal
pub no_terminal : (format : ℕ) (line : List ℕ) → None ≡ terminal_of line
    → message_of format line ≡ Err messages.NoTerminal
no_terminal format line none = rw (← none) refl

-- a line with one, cut into its words
module _ (format : ℕ) (line asked word text : List ℕ) (lterm : Name) (number : Option ℕ)
    (found : Some lterm ≡ terminal_of line) (numbered : number ≡ number_in_line format line)
    (behind : asked ≡ behind_number (number_in_line format line) line) (first : word ≡ first_word asked)
    (rest : text ≡ behind_word asked) where
  cut : message_of format line ≡ message_by line number (Some lterm) (name_in word) text
  cut = rw (found, first, rest, behind, numbered) refl

  pub no_tran : None ≡ name_in word → message_of format line ≡ Err messages.NoTran
  no_tran none = cut ∙ rw (← none) refl

  pub too_long : (tran : Name) → Some tran ≡ name_in word → 1000 < length text
      → message_of format line ≡ Err messages.TooLong
  too_long tran named long = cut ∙ rw (← named) (search rules)

  pub not_ascii : (tran : Name) → Some tran ≡ name_in word → length text ≤ 1000 → list_all is_printable text ≡ false
      → message_of format line ≡ Err messages.NotAscii
  not_ascii tran named fits bad = cut ∙ rw (← named) (search rules)

  pub is_message : (tran : Name) → Some tran ≡ name_in word → length text ≤ 1000 → list_all is_printable text ≡ true
      → message_of format line
      ≡ Ok (record { lterm = lterm; tran = tran; text = text; line = line; number = number })
  is_message tran named fits good = cut ∙ rw (← named) (search rules)
