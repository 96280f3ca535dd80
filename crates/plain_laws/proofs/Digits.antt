-- Lists of digits.
use Rattle.std.proofs.Common.{◌++◌, ◌<◌, ◌∷◌, ◌≡◌, List, [], arith, false, get_or, length, refl, suc, true, zero, ℕ}
use Rattle.std.proofs.Math.Bool.{and-false}
use Rattle.std.proofs.lemmas.Bool.{and_from, and_parts}
use Rattle.std.specs.Char.{is_ascii_digit}
use Rattle.std.specs.Str.{all_ascii_digits}

-- with one digit more they are still digits
pub digits_snoc : (ds : List ℕ) (b : ℕ) → all_ascii_digits ds ≡ true → is_ascii_digit b ≡ true
    → all_ascii_digits (ds ++ b ∷ []) ≡ true
digits_snoc [] b e f = rw f refl
digits_snoc (d ∷ ds) b e f = let parts = and_parts (is_ascii_digit d) (all_ascii_digits ds) e in
    and_from _ _ parts.0 (digits_snoc ds b parts.1 f)

-- a byte that is no digit among them
pub not_all_digits : (xs : List ℕ) (i : ℕ) → i < length xs → is_ascii_digit (get_or xs i 0) ≡ false
    → all_ascii_digits xs ≡ false
not_all_digits [] i lt is = absurd (omega arith)
not_all_digits (x ∷ xs) zero lt is = rw is refl
not_all_digits (x ∷ xs) (suc i) lt is = rw (not_all_digits xs i (omega arith) is) (and-false (is_ascii_digit x))
