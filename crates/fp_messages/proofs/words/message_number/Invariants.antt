use Rattle.std.proofs.Common.{◌≡◌, take, true}
use Rattle.std.specs.Str.{all_ascii_digits}
use Rattle.fp_model.specs.Texts.{value}
use Rattle.fp_messages.proofs.DigitLemmas.{figures}
use Rattle.fp_messages.proofs.words.message_number.Given as goal

-- the bytes so far are digits, and they are this number
abbrev pub invariant-loop-digit : goal.invariant-loop-digit
invariant-loop-digit l = record {
  digits : all_ascii_digits (take l.digit-index l.word) ≡ true;
  so_far : l.number ≡ value 10 (figures (take l.digit-index l.word));
}
