use Rattle.std.proofs.Common.{sym, ◌∙◌, Ok, Err}
use Rattle.fp_model.specs.Messages.{message_of}
use Rattle.fp_messages.specs.declared.message.MessageFault.TheVariants as fault
use Rattle.fp_messages.proofs.MessageLemmas.{told, wanted, no_terminal, no_tran, too_long, not_ascii, is_message}
use Rattle.fp_messages.proofs.message.read_message.Goals as goal

pub returns-in_default : goal.returns-in_default
returns-in_default c =
    let is = no_terminal c.args.format c.args.line.now (sym c.in_default.is ∙ c.terminal_of.ensures) in
    let t = told (Err fault.NoTerminal) (message_of c.args.format c.args.line.now) is in
    record {
      ok = t.ok;
      no_terminal = t.no_terminal;
      no_tran = t.no_tran;
      too_long = t.too_long;
      not_ascii = t.not_ascii;
      memory = t.memory;
    }

pub returns-in_default-name_in : goal.returns-in_default-name_in
returns-in_default-name_in c =
    let is = no_tran c.args.format c.args.line.now c.split_number-number.result.1.now c.split_word.result.0.now
    c.split_word.result.1.now c.in-Some.lterm c.split_number-number.result.0 (sym c.in-Some.is ∙ c.terminal_of.ensures)
    c.split_number-number.ensures.number c.split_number-number.ensures.behind c.split_word.ensures.word
    c.split_word.ensures.behind
    (sym c.in_default-name_in.is ∙ c.name_in.ensures) in
    let t = told (Err fault.NoTran) (message_of c.args.format c.args.line.now) is in
    record {
      ok = t.ok;
      no_terminal = t.no_terminal;
      no_tran = t.no_tran;
      too_long = t.too_long;
      not_ascii = t.not_ascii;
      memory = t.memory;
    }

pub returns-then-text-gt-LONGEST_TEXT : goal.returns-then-text-gt-LONGEST_TEXT
returns-then-text-gt-LONGEST_TEXT c =
    let is = too_long c.args.format c.args.line.now c.split_number-number.result.1.now c.split_word.result.0.now
    c.split_word.result.1.now c.in-Some.lterm c.split_number-number.result.0 (sym c.in-Some.is ∙ c.terminal_of.ensures)
    c.split_number-number.ensures.number c.split_number-number.ensures.behind c.split_word.ensures.word
    c.split_word.ensures.behind c.in-Some-name_in.tran
    (sym c.in-Some-name_in.is ∙ c.name_in.ensures)
    c.if-text-gt-LONGEST_TEXT.true in
    let t = told (Err fault.TooLong) (message_of c.args.format c.args.line.now) is in
    record {
      ok = t.ok;
      no_terminal = t.no_terminal;
      no_tran = t.no_tran;
      too_long = t.too_long;
      not_ascii = t.not_ascii;
      memory = t.memory;
    }

pub returns-then-not-is_printable : goal.returns-then-not-is_printable
returns-then-not-is_printable c =
    let is = not_ascii c.args.format c.args.line.now c.split_number-number.result.1.now c.split_word.result.0.now
    c.split_word.result.1.now c.in-Some.lterm c.split_number-number.result.0 (sym c.in-Some.is ∙ c.terminal_of.ensures)
    c.split_number-number.ensures.number c.split_number-number.ensures.behind c.split_word.ensures.word
    c.split_word.ensures.behind c.in-Some-name_in.tran
    (sym c.in-Some-name_in.is ∙ c.name_in.ensures)
    c.if-text-gt-LONGEST_TEXT.false (sym c.is_printable.ensures ∙ c.if-not-is_printable.true) in
    let t = told (Err fault.NotAscii) (message_of c.args.format c.args.line.now) is in
    record {
      ok = t.ok;
      no_terminal = t.no_terminal;
      no_tran = t.no_tran;
      too_long = t.too_long;
      not_ascii = t.not_ascii;
      memory = t.memory;
    }

pub returns-in_err-from_slice : goal.returns-in_err-from_slice
returns-in_err-from_slice c =
    let is = wanted c.from_residual.result (message_of c.args.format c.args.line.now) _ c.from_residual.ensures.1
    (is_message c.args.format c.args.line.now c.split_number-number.result.1.now c.split_word.result.0.now
    c.split_word.result.1.now c.in-Some.lterm c.split_number-number.result.0 (sym c.in-Some.is ∙ c.terminal_of.ensures)
    c.split_number-number.ensures.number c.split_number-number.ensures.behind c.split_word.ensures.word
    c.split_word.ensures.behind c.in-Some-name_in.tran
    (sym c.in-Some-name_in.is ∙ c.name_in.ensures)
    c.if-text-gt-LONGEST_TEXT.false (sym c.is_printable.ensures ∙ c.if-not-is_printable.false)) in
    let t = told c.from_residual.result (message_of c.args.format c.args.line.now) is in
    record {
      ok = t.ok;
      no_terminal = t.no_terminal;
      no_tran = t.no_tran;
      too_long = t.too_long;
      not_ascii = t.not_ascii;
      memory = t.memory;
    }

pub returns-in_err-from_slice-2 : goal.returns-in_err-from_slice-2
returns-in_err-from_slice-2 c =
    let is = wanted c.from_residual-in_err-from_slice-2.result (message_of c.args.format c.args.line.now) _ c.from_residual-in_err-from_slice-2.ensures.1
    (is_message c.args.format c.args.line.now c.split_number-number.result.1.now c.split_word.result.0.now
    c.split_word.result.1.now c.in-Some.lterm c.split_number-number.result.0 (sym c.in-Some.is ∙ c.terminal_of.ensures)
    c.split_number-number.ensures.number c.split_number-number.ensures.behind c.split_word.ensures.word
    c.split_word.ensures.behind c.in-Some-name_in.tran
    (sym c.in-Some-name_in.is ∙ c.name_in.ensures)
    c.if-text-gt-LONGEST_TEXT.false (sym c.is_printable.ensures ∙ c.if-not-is_printable.false)) in
    let t = told c.from_residual-in_err-from_slice-2.result (message_of c.args.format c.args.line.now) is in
    record {
      ok = t.ok;
      no_terminal = t.no_terminal;
      no_tran = t.no_tran;
      too_long = t.too_long;
      not_ascii = t.not_ascii;
      memory = t.memory;
    }

pub returns : goal.returns
returns c =
    let is = is_message c.args.format c.args.line.now c.split_number-number.result.1.now c.split_word.result.0.now
    c.split_word.result.1.now c.in-Some.lterm c.split_number-number.result.0 (sym c.in-Some.is ∙ c.terminal_of.ensures)
    c.split_number-number.ensures.number c.split_number-number.ensures.behind c.split_word.ensures.word
    c.split_word.ensures.behind c.in-Some-name_in.tran
    (sym c.in-Some-name_in.is ∙ c.name_in.ensures)
    c.if-text-gt-LONGEST_TEXT.false (sym c.is_printable.ensures ∙ c.if-not-is_printable.false) in
    let t = told (Ok _) (message_of c.args.format c.args.line.now) (rw (c.in_ok-from_slice.ensures, c.in_ok-from_slice-2.ensures) is) in
    record {
      ok = t.ok;
      no_terminal = t.no_terminal;
      no_tran = t.no_tran;
      too_long = t.too_long;
      not_ascii = t.not_ascii;
      memory = t.memory;
    }
