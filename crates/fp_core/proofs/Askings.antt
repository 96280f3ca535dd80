-- What a line asks for, and which number its entry uses.
use Rattle.std.proofs.Common.{◌≡◌, sym, ◌∙◌, ap, subst, ℕ, List, [], Bool, true, false, Option, Some, None, unwrap_or}
use Rattle.std.specs.Prelude.{IsSome, Ok, Err, if◌then◌else◌}
use Rattle.fp_model.specs.declared.calls.Message.{Message}
use Rattle.fp_model.specs.declared.log.Outcome.{Outcome}
use Rattle.fp_model.specs.declared.scripts.Script.{Script}
use Rattle.fp_model.specs.Asking.{script_of}
use Rattle.fp_model.specs.Lasts.{Last, last_by, last_in, last_of, last_of_message, uses_number}
use Rattle.fp_model.specs.Messages.{NotAscii, TooLong, message_of, terminal_of}
use Rattle.fp_model.specs.Product.{by_last, by_number}
use Rattle.fp_model.specs.ReplyLine.{addressee, line_for, verdict}
use Rattle.fp_core.specs.declared.asking.Demand.{Demand}
use Rattle.fp_core.specs.declared.asking.Demand.TheVariants as demand
use Rattle.fp_core.specs.Numbering.{last_told}
use Rattle.fp_core.specs.inside.Reading.{IsDemandIn, IsDemandOf, refused_line}
use Rattle.serial_order.proofs.Lines.{of_line}

-- ---- by its number

-- a message with a number, whose terminal has this last one
pub by_some : (scripts : List Script) (lasts : List Last) (message : Message) (number : ℕ) (last : Option Last)
    → message.number ≡ Some number → last_of message.lterm lasts ≡ last
    → by_number scripts lasts message message.number ≡ by_last scripts message number last
by_some scripts lasts message number last some is =
    ap (by_number scripts lasts message) some ∙ ap (by_last scripts message number) is

-- ---- read in a format

-- a message keeps its line, and is that of the line's terminal
fair_line : (long printable : Bool) (m message : Message)
    → (if long then Err TooLong else (if printable then Ok m else Err NotAscii)) ≡ Ok message → m ≡ message
fair_line true printable m message is = absurd cc
fair_line false true m message is = cc
fair_line false false m message is = absurd cc

module _ (format : ℕ) (scripts : List Script) (line : List ℕ) where
  abbrev text_of : Outcome → List ℕ → List ℕ
  text_of o l = unwrap_or (line_for (addressee (terminal_of l)) (verdict o [])) []

  -- a line that is a message
  module _ (message : Message) (of : message_of format line ≡ Ok message) where
    used_so : (o : Outcome)
        → last_by format (refused_line o line) ≡ (if uses_number o then last_told message o [] else None)
    used_so o =
        ap (λ r. if uses_number o then last_in (text_of o line) r else None) of
        ∙ ap (λ (l : List ℕ). if uses_number o then last_of_message (text_of o l) message else None)
        (sym (of_line format line message of).0)

    pub demand_is : (found : Demand) → IsDemandOf scripts message found → IsDemandIn format scripts line found
    demand_is (demand.Message same) is = (
      of ∙ ap (λ (m : Message). Ok m) (sym is.0),
      (of_line format line message of).1 ∙ ap (λ (m : Message). Some m.lterm) (sym is.0),
      ap (λ (m : Message). m.line) is.0 ∙ (of_line format line message of).0,
      subst (λ (m : Message). IsSome (script_of scripts m.tran)) (sym is.0) is.1,
    )
    demand_is (demand.Nothing o kept) is = (is.0, is.1 ∙ sym (used_so o))
