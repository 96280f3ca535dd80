use Rattle.std.proofs.Common.{◌++◌, length, sym, ◌∙◌, ap, arith, append_assoc}
use Rattle.fp_model.specs.Spellings.{be64}
use Rattle.fp_model.specs.LogText.{rest_text}
use Rattle.log_format.proofs.SizeLaws.{length_of_rest, length_of_entry}
use Rattle.log_format.proofs.writing.write_entry.Goals as goal

-- there was no room
pub returns-in_err-reserve-clause-sure : goal.returns-in_err-reserve-clause-sure
returns-in_err-reserve-clause-sure c room =
    let size = length_of_entry c.args.e.now in
    let full = c.in_err-reserve.ensures.full in
    absurd (omega (arith, room, size, full, c.rest_length-rest.ensures.value))

pub returns-clause-ok : goal.returns-clause-ok
returns-clause-ok c =
    let rest = c.rest_length-rest.ensures.value ∙ sym (length_of_rest c.args.e.now) in
    c.write_rest.ensures.items ∙ ap (λ l. l ++ rest_text c.args.e.now)
    (c.write_u64.ensures.items ∙ ap (λ l. l ++ be64 c.rest_length-rest.result) c.reserve.ensures.items ∙ ap
    (λ n. c.args.into.now.items ++ be64 n) rest)
    ∙ append_assoc c.args.into.now.items (be64 (length (rest_text c.args.e.now))) (rest_text c.args.e.now)
