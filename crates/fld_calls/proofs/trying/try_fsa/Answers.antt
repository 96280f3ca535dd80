use Rattle.std.proofs.Common.{◌≡◌, ◌∙◌, sym, length}
use Rattle.std.specs.Prelude.{OnOk}
use Rattle.fp_model.specs.Fsas.{field_bytes, letter_on}
use Rattle.fld_calls.specs.inside.Refusals.{letter_in, segment_behind}
use Rattle.fld_calls.specs.Forms.{lent_form_of}
use Rattle.fld_calls.specs.inside.Forms.{of_fields}
use Rattle.fld_calls.proofs.TryLemmas.{found_within, known, its-letter, answered}
use Rattle.fld_calls.proofs.trying.try_fsa.Goals as goal

pub try_at-requires : goal.try_at-requires
try_at-requires c =
    found_within c.args.fields.now (length c.args.segment.now) c.args.fsa.now.field.0 c.in-Some-find_field.field
    c.requires c.in-Some-find_field.ensures

pub returns-clause-letter : goal.returns-clause-letter
returns-clause-letter c =
    let field = c.in-Some-find_field.field in
    let fsa = lent_form_of c.args.fsa.now in
    let segment = c.args.segment.now in
    let its = c.in-Some.ensures.some in
    let letter : letter_in c.try_at.result ≡ letter_on field fsa.op fsa.operand (field_bytes field segment) =
    rw its at c.try_at.ensures.letter in
    letter ∙ sym (its-letter (of_fields c.args.fields.now) fsa segment field (rw its at (known c.in-Some.operation))
    c.in-Some-find_field.ensures)

pub returns-clause-segment : goal.returns-clause-segment
returns-clause-segment c =
    let field = c.in-Some-find_field.field in
    let fsa = lent_form_of c.args.fsa.now in
    let segment = c.args.segment.now in
    let its = c.in-Some.ensures.some in
    let letter : letter_in c.try_at.result ≡ letter_on field fsa.op fsa.operand (field_bytes field segment) =
    rw its at c.try_at.ensures.letter in
    let ok : OnOk c.try_at.result (c.try_at.new.segment ≡ segment_behind field fsa.op fsa.operand segment) =
    rw its at c.try_at.ensures.ok in
    answered (of_fields c.args.fields.now) fsa segment field (rw its at (known c.in-Some.operation))
    c.in-Some-find_field.ensures c.try_at.new.segment c.try_at.result letter ok c.try_at.ensures.err
