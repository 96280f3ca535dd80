-- What is kept of the number of a message: of each terminal the last one, and the reply line that it got.
use Rattle.std.specs.Prelude.{List, ℕ, [], Option, unwrap_or}
use Rattle.fp_model.specs.declared.calls.Message.{Message}
use Rattle.fp_model.specs.declared.log.Outcome.{Outcome}
use Rattle.fp_model.specs.Lasts.{Last, last_of_message}
use Rattle.fp_model.specs.Messages.{terminal_of}
use Rattle.fp_model.specs.ReplyLine.{addressee, line_for, verdict}
use Rattle.fp_core.specs.declared.numbering.Kept.{Kept}

-- a number that is kept, as the model has it
abbrev pub last_kept : Kept → Last
last_kept kept = record { lterm = kept.lterm; number = kept.number; line = kept.line }

-- what a message whose line was answered so uses up, where it has a number
abbrev pub last_told : Message → Outcome → List ℕ → Option Last
last_told message outcome reply =
    last_of_message (unwrap_or (line_for (addressee (terminal_of message.line)) (verdict outcome reply)) []) message
