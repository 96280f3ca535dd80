-- The number that digits are, as a loop over them finds it.
use Rattle.std.proofs.Common.{◌≡◌, ℕ, zero, suc, ◌+◌, ◌-◌, ◌*◌, ◌^◌, ◌≤◌, ◌<◌, List, [], ◌∷◌, ◌++◌, length, map, take}
use Rattle.std.proofs.Common.{get_or, Bool, true, false, ◌&&◌, cond, Option, None, refl, ap, sym, ◌∙◌, arith}
use Rattle.std.specs.Prelude.{nat_le}
use Rattle.std.specs.Str.{all_ascii_digits}
use Rattle.std.specs.Char.{is_ascii_digit}
use Rattle.std.proofs.lemmas.List.{map-append, length-append, length-take}
use Rattle.std.proofs.lemmas.Bool.{and_parts}
use Rattle.std.proofs.lemmas.Bool.Decides.{nat_tests}
use Rattle.std.proofs.Math.Bool.{and-false}
use Rattle.std.proofs.Math.Nat.{pow-suc, pow-zero, pow-le-pow_right, mul-le-mul_left}
use Rattle.fp_model.specs.Texts.{value, digits_number}
use Rattle.plain_laws.proofs.Digits.{not_all_digits}
use Rattle.model_laws.proofs.Texts.{value_snoc}
use Rattle.model_laws.proofs.Figures.{digits_below}

-- what the characters of digits stand for
abbrev pub figures : List ℕ → List ℕ
figures ds = map (λ c. c - 48) ds

-- ---- one digit more

-- ---- something else than a digit

pub no_number : (ds : List ℕ) (i : ℕ) → i < length ds → is_ascii_digit (get_or ds i 0) ≡ false → digits_number ds ≡ None
no_number ds i lt e = rw (not_all_digits ds i lt e, and-false (nat_le 1 (length ds) && nat_le (length ds) 31)) refl

-- where a number is None, it is None under each test
pub none_either : (test : Bool) {number : Option ℕ} → number ≡ None → None ≡ cond test number None
none_either true is = sym is
none_either false is = refl

-- ---- how large they are

-- the number of the first of at most 18 digits, when there is one more
pub prefix_below : (ds : List ℕ) (i : ℕ) → length ds ≤ 18 → i < length ds → all_ascii_digits (take i ds) ≡ true
    → value 10 (figures (take i ds)) < 10 ^ 17
prefix_below ds i few lt all =
    let below : value 10 (figures (take i ds)) < 10 ^ length (take i ds) = digits_below (take i ds) all in
    let fits : length (take i ds) ≤ 17 = omega (arith, length-take i ds) in
    let ten : 0 < 10 = omega arith in
    let power : 10 ^ length (take i ds) ≤ 10 ^ 17 = pow-le-pow_right ten fits in
    omega (arith, below, power)
