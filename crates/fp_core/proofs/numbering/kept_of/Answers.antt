use Rattle.std.proofs.Common.{◌∙◌, sym, ap, List, ℕ, [], Option, Some, unwrap_or}
use Rattle.std.specs.Prelude.{option_map}
use Rattle.fp_model.specs.Lasts.{Last}
use Rattle.fp_model.specs.Messages.{terminal_of}
use Rattle.fp_model.specs.ReplyLine.{addressee, line_for, verdict}
use Rattle.fp_core.proofs.numbering.kept_of.Goals as goal

pub returns : goal.returns
returns c =
    let message = c.args.message.now in
    let text : List ℕ → List ℕ =
    λ l. unwrap_or (line_for (addressee (terminal_of l)) (verdict c.args.outcome.now c.args.reply.now)) [] in
    let last : List ℕ → Option ℕ → Option Last =
    λ l n. option_map (λ number. record { lterm = message.lterm; number = number; line = l }) n in
    ap (λ (l : List ℕ). last l (Some c.in-Some.number)) (c.in_ok-line.ensures ∙ ap text c.as_slice.ensures)
    ∙ ap (last (text message.line)) (sym c.in-Some.is)
