use Rattle.std.proofs.Common.{◌≡◌, ◌+◌, ◌*◌, ◌-◌, get_or, take, arith, sym, ◌∙◌, ap, rules}
use Rattle.std.specs.Str.{all_ascii_digits}
use Rattle.std.proofs.lemmas.List.{take_more}
use Rattle.fp_model.specs.Texts.{value}
use Rattle.fld_calls.proofs.Digits.{figures, no_number, prefix_below}
use Rattle.model_laws.proofs.Figures.{value_digit}
use Rattle.txn_values.proofs.values.digits_number.Goals as goal
use Rattle.plain_laws.proofs.Digits.{digits_snoc, not_all_digits}

pub returns-then-not-is_ascii_digit-clause-exact : goal.returns-then-not-is_ascii_digit-clause-exact
returns-then-not-is_ascii_digit-clause-exact c =
    no_number c.args.digits.now (not_all_digits c.args.digits.now c.loop-digit.digit-index c.loop-digit-test.true
    (sym c.is_ascii_digit.ensures.value ∙ c.if-not-is_ascii_digit.true))

pub overflow_mul-n : goal.overflow_mul-n
overflow_mul-n c =
    let h = prefix_below c.args.digits.now c.loop-digit.digit-index (omega arith) c.loop-digit.invariant.digits in
    omega (arith, h, c.loop-digit.invariant.so_far)

pub overflow_add-n : goal.overflow_add-n
overflow_add-n c =
    let h = prefix_below c.args.digits.now c.loop-digit.digit-index (omega arith) c.loop-digit.invariant.digits in
    omega (arith, h, c.loop-digit.invariant.so_far, c.type_inv.digits c.loop-digit.digit-index)

-- one digit more
pub loop-digit-preserved : goal.loop-digit-preserved
loop-digit-preserved c =
    let ds = c.args.digits.now in
    let i = c.loop-digit.digit-index in
    let more = take_more ds i 0 c.loop-digit-test.true in
    let figure : c.from.result ≡ get_or ds i 0 - 48 = search rules in
    record {
      digits = ap all_ascii_digits more ∙ digits_snoc (take i ds) (get_or ds i 0) c.loop-digit.invariant.digits
          (sym c.is_ascii_digit.ensures.value ∙ c.if-not-is_ascii_digit.false);
      so_far =
          ap (λ n. c.loop-digit.n * 10 + n) figure ∙ ap (λ n. n * 10 + (get_or ds i 0 - 48))
          c.loop-digit.invariant.so_far
          ∙ sym (value_digit (take i ds) (get_or ds i 0)) ∙ ap (λ xs. value 10 (figures xs)) (sym more);
    }

pub returns-clause-small : goal.returns-clause-small
returns-clause-small c =
    let h = prefix_below c.args.digits.now c.loop-digit.digit-index (omega arith) c.loop-digit.invariant.digits in
    omega (arith, h, c.loop-digit.invariant.so_far)
