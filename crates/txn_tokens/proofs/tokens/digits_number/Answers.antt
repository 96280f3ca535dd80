use Rattle.std.proofs.Common.{get_or, take, refl, arith, ◌≡◌, true, false, sym, ◌∙◌}
use Rattle.std.specs.Char.{is_ascii_digit}
use Rattle.std.proofs.Math.Bool.{and-false}
use Rattle.txn_tokens.proofs.tokens.digits_number.Goals as goal
use Rattle.plain_laws.proofs.Digits.{digits_snoc, not_all_digits}
use Rattle.plain_laws.proofs.Lists.{take_snoc}
use Rattle.model_laws.proofs.Figures.{value_digit, prefix_below, digits_small}

pub returns-then-not-is_digit-clause-exact : goal.returns-then-not-is_digit-clause-exact
returns-then-not-is_digit-clause-exact c =
    let no : is_ascii_digit (get_or c.args.digits.now c.loop-byte.byte-index 0) ≡ false =
    sym c.is_digit.ensures ∙ c.if-not-is_digit.true in
    rw (not_all_digits c.args.digits.now c.loop-byte.byte-index c.loop-byte-test.true no, and-false) refl

pub overflow_mul-n : goal.overflow_mul-n
overflow_mul-n c =
    let h = prefix_below c.args.digits.now c.loop-byte.byte-index c.if-digits-gt-MOST_DIGITS.false c.loop-byte-test.true
    c.loop-byte.invariant.digits in omega (arith, h, c.loop-byte.invariant.so_far)

pub overflow_add-n : goal.overflow_add-n
overflow_add-n c =
    let h = prefix_below c.args.digits.now c.loop-byte.byte-index c.if-digits-gt-MOST_DIGITS.false c.loop-byte-test.true
    c.loop-byte.invariant.digits in
    omega (arith, h, c.loop-byte.invariant.so_far, c.from.ensures, c.type_inv.digits c.loop-byte.byte-index)

pub loop-byte-preserved : goal.loop-byte-preserved
loop-byte-preserved c =
    let yes : is_ascii_digit (get_or c.args.digits.now c.loop-byte.byte-index 0) ≡ true =
    sym c.is_digit.ensures ∙ c.if-not-is_digit.false in
    rw (take_snoc c.args.digits.now c.loop-byte.byte-index c.loop-byte-test.true) (record {
      digits = digits_snoc (take c.loop-byte.byte-index c.args.digits.now)
          (get_or c.args.digits.now c.loop-byte.byte-index 0) c.loop-byte.invariant.digits yes;
      so_far = rw (value_digit (take c.loop-byte.byte-index c.args.digits.now)
          (get_or c.args.digits.now c.loop-byte.byte-index 0))
          (omega (arith, c.loop-byte.invariant.so_far, c.from.ensures));
    })

pub returns-clause-small : goal.returns-clause-small
returns-clause-small c =
    let h = digits_small c.args.digits.now c.loop-byte.byte-index c.if-digits-gt-MOST_DIGITS.false
    c.loop-byte.invariant.digits in omega (arith, h, c.loop-byte.invariant.so_far)
