use Rattle.std.proofs.Common.{◌∙◌, sym}
use Rattle.std.specs.Int.{w128}
use Rattle.std.proofs.lemmas.Int.{to_z-of_z}
use Rattle.fp_model.specs.Numbers.{bytes_of}
use Rattle.fld_calls.specs.inside.Refusals.{IsDone}
use Rattle.fld_calls.proofs.NumberSizes.{fits_sums}
use Rattle.fld_calls.proofs.Letters.{done-letter, done-err, put-letter}
use Rattle.fld_calls.proofs.field.put_number.Goals as goal

pub returns-clause-letter : goal.returns-clause-letter
returns-clause-letter c =
    let field = c.args.field.now in
    let given = c.in-Some.given in
    let same = to_z-of_z w128 given (fits_sums given c.in-Some.ensures.small) in
    let done : IsDone c.fill.result c.args.held.now c.fill.new.held (bytes_of field.kind field.length given) =
    rw same at c.fill.ensures in
    done-letter c.fill.result c.args.held.now c.fill.new.held (bytes_of field.kind field.length given) done
    ∙ sym (put-letter field c.args.operand.now c.args.held.now given c.requires.number
    (sym c.is_key.ensures ∙ c.if-is_key.false) (sym c.in-Some.ensures.exact))

pub returns-clause-err : goal.returns-clause-err
returns-clause-err c = done-err c.fill.result c.args.held.now c.fill.new.held _ c.fill.ensures
