use Rattle.std.proofs.Common.{◌≡◌, ◌+◌, ◌*◌, ◌-◌, get_or, take, arith, sym, ◌∙◌, ap, rules}
use Rattle.std.specs.Str.{all_ascii_digits}
use Rattle.std.proofs.lemmas.List.{take_more}
use Rattle.fp_model.specs.Texts.{value}
use Rattle.fp_messages.proofs.DigitLemmas.{figures, no_number, none_either, prefix_below}
use Rattle.fp_messages.proofs.words.message_number.Goals as goal
use Rattle.plain_laws.proofs.Digits.{digits_snoc}
use Rattle.model_laws.proofs.Figures.{value_digit}

-- no digit at a place, and so no number
pub returns-then-not-is_ascii_digit : goal.returns-then-not-is_ascii_digit
returns-then-not-is_ascii_digit c =
    let word = c.args.word.now in
    let no = sym c.is_ascii_digit.ensures.value ∙ c.if-not-is_ascii_digit.true in
    none_either _ (no_number word c.loop-digit.digit-index c.loop-digit-test.true no)

pub overflow_mul-number : goal.overflow_mul-number
overflow_mul-number c =
    let loop = c.loop-digit in
    let few = c.if-word-gt-MOST_DIGITS.false in
    let below = prefix_below c.args.word.now loop.digit-index few c.loop-digit-test.true loop.invariant.digits in
    omega (arith, below, loop.invariant.so_far)

pub overflow_add-number : goal.overflow_add-number
overflow_add-number c =
    let loop = c.loop-digit in
    let few = c.if-word-gt-MOST_DIGITS.false in
    let below = prefix_below c.args.word.now loop.digit-index few c.loop-digit-test.true loop.invariant.digits in
    omega (arith, below, loop.invariant.so_far, c.type_inv.word loop.digit-index)

-- one digit more
pub loop-digit-preserved : goal.loop-digit-preserved
loop-digit-preserved c =
    let ds = c.args.word.now in
    let i = c.loop-digit.digit-index in
    let before = c.loop-digit.invariant in
    let more = take_more ds i 0 c.loop-digit-test.true in
    let figure : c.from.result ≡ get_or ds i 0 - 48 = search rules in
    let yes = sym c.is_ascii_digit.ensures.value ∙ c.if-not-is_ascii_digit.false in
    record {
      digits = ap all_ascii_digits more ∙ digits_snoc (take i ds) (get_or ds i 0) before.digits yes;
      so_far =
          ap (λ n. c.loop-digit.number * 10 + n) figure
          ∙ ap (λ n. n * 10 + (get_or ds i 0 - 48)) before.so_far
          ∙ sym (value_digit (take i ds) (get_or ds i 0))
          ∙ ap (λ xs. value 10 (figures xs)) (sym more);
    }
