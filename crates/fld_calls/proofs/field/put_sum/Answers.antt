use Rattle.std.proofs.Common.{◌≡◌, ◌∙◌, sym, rules}
use Rattle.std.specs.Prelude.{FitsSigned}
use Rattle.std.specs.Int.{w128}
use Rattle.std.proofs.lemmas.Int.{to_z-of_z}
use Rattle.fp_model.specs.Fsas.{summed}
use Rattle.fp_model.specs.Numbers.{bytes_of}
use Rattle.fld_calls.specs.inside.Operations.{sum_byte}
use Rattle.fld_calls.specs.inside.Refusals.{IsDone}
use Rattle.fld_calls.proofs.NumberSizes.{fits_sums}
use Rattle.fld_calls.proofs.Letters.{done-letter, done-ok, done-err, sum-letter, sum-changed}
use Rattle.fld_calls.proofs.field.put_sum.Goals as goal

pub returns-clause-letter : goal.returns-clause-letter
returns-clause-letter c =
    let field = c.args.field.now in
    let given = c.in-Some.given in
    let number = c.in-Some-number_of.number in
    let same = to_z-of_z w128 given (fits_sums given c.in-Some.ensures.small) in
    let same2 = to_z-of_z w128 number (fits_sums number c.in-Some-number_of.ensures.small) in
    let sum : c.of.result ≡ summed (sum_byte c.args.sum) number given = rw (same, same2) at c.of.ensures in
    let fits : FitsSigned w128 c.of.result = search rules in
    let same3 = to_z-of_z w128 c.of.result fits in
    let done : IsDone c.fill.result c.args.held.now c.fill.new.held
    (bytes_of field.kind field.length (summed (sum_byte c.args.sum) number given)) =
    rw (same3, sum) at c.fill.ensures in
    done-letter c.fill.result c.args.held.now c.fill.new.held
    (bytes_of field.kind field.length (summed (sum_byte c.args.sum) number given)) done
    ∙ sym (sum-letter field c.args.operand.now c.args.held.now given c.requires.number
    (sym c.is_key.ensures ∙ c.if-is_key.false) (sym c.in-Some.ensures.exact)
    number (sym c.in-Some-number_of.ensures.exact) c.args.sum)

pub returns-clause-ok : goal.returns-clause-ok
returns-clause-ok c =
    let field = c.args.field.now in
    let given = c.in-Some.given in
    let number = c.in-Some-number_of.number in
    let same = to_z-of_z w128 given (fits_sums given c.in-Some.ensures.small) in
    let same2 = to_z-of_z w128 number (fits_sums number c.in-Some-number_of.ensures.small) in
    let sum : c.of.result ≡ summed (sum_byte c.args.sum) number given = rw (same, same2) at c.of.ensures in
    let fits : FitsSigned w128 c.of.result = search rules in
    let same3 = to_z-of_z w128 c.of.result fits in
    let done : IsDone c.fill.result c.args.held.now c.fill.new.held
    (bytes_of field.kind field.length (summed (sum_byte c.args.sum) number given)) =
    rw (same3, sum) at c.fill.ensures in
    rw (sum-changed field c.args.operand.now c.args.held.now given c.requires.number
    (sym c.is_key.ensures ∙ c.if-is_key.false) (sym c.in-Some.ensures.exact)
    number (sym c.in-Some-number_of.ensures.exact) c.args.sum)
    (done-ok c.fill.result c.args.held.now c.fill.new.held
    (bytes_of field.kind field.length (summed (sum_byte c.args.sum) number given)) done)

pub returns-clause-err : goal.returns-clause-err
returns-clause-err c = done-err c.fill.result c.args.held.now c.fill.new.held _ c.fill.ensures
