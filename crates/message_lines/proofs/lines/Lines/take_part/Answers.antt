use Rattle.std.proofs.Common.{arith, ◌∙◌}
use Rattle.std.proofs.lemmas.Result.{IfOk-from_err}
use Rattle.message_lines.proofs.Errs.{memory_no_long_line, memory_no_line_too_many, memory_no_failed_read}
use Rattle.message_lines.proofs.Pieces.{part_taken, long_joined, as_number}
use Rattle.message_lines.proofs.lines.Lines.take_part.Goals as goal

pub returns-then-part-len-clause-too_long : goal.returns-then-part-len-clause-too_long
returns-then-part-len-clause-too_long c = λ n e.
    let it = rw c.deref.ensures.value at c.first_part-by_newline.ensures in
    long_joined c.args.line.now.items c.first_part-by_newline.result.0.now _ _ c.first_part-by_newline.result.1
    c.requires.plain it (omega arith)

pub returns-in_err-extend_from_slice-clause-part : goal.returns-in_err-extend_from_slice-clause-part
returns-in_err-extend_from_slice-clause-part c = IfOk-from_err c.from_residual.result _ c.from_residual.ensures.0

pub returns-in_err-extend_from_slice-clause-short : goal.returns-in_err-extend_from_slice-clause-short
returns-in_err-extend_from_slice-clause-short c = IfOk-from_err c.from_residual.result _ c.from_residual.ensures.0

pub returns-in_err-extend_from_slice-clause-too_long : goal.returns-in_err-extend_from_slice-clause-too_long
returns-in_err-extend_from_slice-clause-too_long c = λ n e. absurd (memory_no_long_line c.from_residual.result n c.from_residual.ensures.1 e)

pub returns-in_err-extend_from_slice-clause-number : goal.returns-in_err-extend_from_slice-clause-number
returns-in_err-extend_from_slice-clause-number c = λ n e. absurd (memory_no_long_line c.from_residual.result n c.from_residual.ensures.1 e)

pub returns-in_err-extend_from_slice-clause-not_many : goal.returns-in_err-extend_from_slice-clause-not_many
returns-in_err-extend_from_slice-clause-not_many c = λ n e. memory_no_line_too_many c.from_residual.result n c.from_residual.ensures.1 e

pub returns-in_err-extend_from_slice-clause-not_failed : goal.returns-in_err-extend_from_slice-clause-not_failed
returns-in_err-extend_from_slice-clause-not_failed c = λ e. memory_no_failed_read c.from_residual.result c.from_residual.ensures.1 e

pub returns-clause-part : goal.returns-clause-part
returns-clause-part c =
    let it = rw c.deref.ensures.value at c.first_part-by_newline.ensures in
    let self = c.args.self.now in (
      c.first_part-by_newline.result.0.now,
      part_taken self.block.items c.first_part-by_newline.result.0.now self.at self.end c.from.result
          c.first_part-by_newline.result.1 (omega arith) (c.from.ensures ∙ as_number c.first_part-by_newline.result.1)
          it,
      c.in_ok-extend_from_slice.ensures.items,
    )
