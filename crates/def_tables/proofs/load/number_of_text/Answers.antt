use Rattle.std.proofs.Common.{◌∙◌, ap, None, Some, rules}
use Rattle.std.specs.Int.{w128}
use Rattle.std.proofs.lemmas.Int.{to_z-of_z}
use Rattle.fp_model.specs.Numbers.{bytes_of}
use Rattle.def_tables.proofs.NumberLemmas.{read_nothing, read_minus, read_plus}
use Rattle.def_tables.proofs.load.number_of_text.Goals as goal

pub returns-in_err-first : goal.returns-in_err-first
returns-in_err-first c = λ kind size. read_nothing c.args.text.now c.from_residual.result c.in_err-first.ensures.cases
    c.from_residual.ensures kind size

pub returns-in-Some : goal.returns-in-Some
returns-in-Some c = λ kind size.
    ap (bytes_of kind size) (to_z-of_z w128 c.minus.result (search rules) ∙ c.minus.ensures)
    ∙ read_minus c.args.text.now c.in_ok-first.rest.now c.in_ok-first.first.now (Some c.in-Some.n)
    c.in_ok-first.ensures.cases.0 c.if-first-eq45.true c.in-Some.ensures.exact kind size

pub returns-in-None : goal.returns-in-None
returns-in-None c = λ kind size.
    read_minus c.args.text.now c.in_ok-first.rest.now c.in_ok-first.first.now None c.in_ok-first.ensures.cases.0
    c.if-first-eq45.true c.in-None.ensures.exact kind size

pub returns-in-Some-digits_of : goal.returns-in-Some-digits_of
returns-in-Some-digits_of c = λ kind size.
    ap (bytes_of kind size) (to_z-of_z w128 c.plus.result (search rules) ∙ c.plus.ensures)
    ∙ read_plus c.args.text.now c.in_ok-first.rest.now c.in_ok-first.first.now (Some c.in-Some-digits_of.n)
    c.in_ok-first.ensures.cases.0 c.if-first-eq45.false c.in-Some-digits_of.ensures.exact kind size

pub returns-in-None-digits_of : goal.returns-in-None-digits_of
returns-in-None-digits_of c = λ kind size.
    read_plus c.args.text.now c.in_ok-first.rest.now c.in_ok-first.first.now None c.in_ok-first.ensures.cases.0
    c.if-first-eq45.false c.in-None-digits_of.ensures.exact kind size
