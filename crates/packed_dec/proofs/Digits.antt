-- Digits to a base, read from the front and from the back, and the digits of packed bytes.
use Rattle.std.proofs.Common.{◌≡◌, ℕ, zero, suc, ◌+◌, ◌*◌, ◌^◌, ◌/◌, ◌%◌, ◌-◌, ◌<◌, ◌≤◌, Bool, true, false, List, [], ◌∷◌, ◌++◌, length, get_or, take, drop, refl, sym, ap, ◌∙◌, arith, length-append, append_assoc, pow-add, ◌⊎◌, inl, inr, Some, None}
use Rattle.std.specs.Prelude.{◌&&◌, nat_le, ℤ, if◌then◌else◌}
use Rattle.std.proofs.lemmas.Bool.{cases_lt, and_parts, le-ltb, lt-ltb, le-leb, lt-leb}
use Rattle.std.proofs.lemmas.List.{length-take, take_more, get_or-take, take-append-drop}
use Rattle.std.proofs.lemmas.List.Folds.{list_all-append, list_all_at}
use Rattle.std.specs.List.{list_all}
use Rattle.std.proofs.Math.Bool.{and-false}
use Rattle.std.proofs.Math.Nat.{pow-le-pow_right, pow-suc, pow-zero, mul-le-mul_left}
use Rattle.fp_model.specs.Numbers.{is_digit, packed, packed_digits, packed_sign, signed_by}
use Rattle.fp_model.specs.Texts.{value}
use Rattle.packed_dec.specs.inside.Halves.{halves, pairs_value, magnitude}
use Rattle.plain_laws.proofs.Lists.{length_snoc}

-- one digit more at the end
pub value_snoc : (base : ℕ) (xs : List ℕ) (d : ℕ) → value base (xs ++ d ∷ []) ≡ value base xs * base + d
value_snoc base [] d = rw (pow-zero base) (omega arith)
value_snoc base (x ∷ xs) d = rw (value_snoc base xs d, length_snoc xs d, pow-suc base (length xs)) (grind arith)

-- below the power
pub value_below : (base : ℕ) (ds : List ℕ) → ((i : ℕ) → i < length ds → get_or ds i 0 < base)
    → value base ds < base ^ length ds
value_below base [] fits = rw (pow-zero base) (omega arith)
value_below base (d ∷ ds) fits =
    let h : value base ds < base ^ length ds = value_below base ds (λ i lt. fits (suc i) (omega arith)) in
    let first : d + 1 ≤ base = omega (arith, fits 0 (omega arith)) in
    let m : base ^ length ds * (d + 1) ≤ base ^ length ds * base = mul-le-mul_left (base ^ length ds) first in
    rw (pow-suc base (length ds)) (grind (arith, m, h))

-- a byte more at the end is two half bytes more
pub halves_snoc : (xs : List ℕ) (b : ℕ) → halves (xs ++ b ∷ []) ≡ halves xs ++ b / 16 ∷ b % 16 ∷ []
halves_snoc [] b = refl
halves_snoc (x ∷ xs) b = ap (λ (t : List ℕ). x / 16 ∷ x % 16 ∷ t) (halves_snoc xs b)

-- two half bytes to a byte
pub length-halves : (xs : List ℕ) → length (halves xs) ≡ 2 * length xs
length-halves [] = refl
length-halves (x ∷ xs) = omega (arith, length-halves xs)

-- each digit of a list of them
pub digits_at : (ds : List ℕ) → list_all is_digit ds ≡ true → (i : ℕ) → i < length ds → get_or ds i 0 < 10
digits_at ds h i lt =
    elim (cases_lt (get_or ds i 0) 10) [
      | inl below ↦ below
      | inr above ↦ absurd (cc (h, list_all_at is_digit ds i 0 lt (le-ltb (get_or ds i 0) 10 above)))
    ]

-- eight bytes hold sixteen digits
pub pairs_small : (xs : List ℕ) → length xs ≤ 8 → list_all is_digit (halves xs) ≡ true → value 10 (halves xs) < 10 ^ 16
pairs_small xs few h =
    let below : value 10 (halves xs) < 10 ^ length (halves xs) = value_below 10 (halves xs) (digits_at (halves xs) h) in
    let ten : 0 < 10 = omega arith in
    let fits : length (halves xs) ≤ 16 = omega (arith, length-halves xs) in
    let power : 10 ^ length (halves xs) ≤ 10 ^ 16 = pow-le-pow_right ten fits in
    omega (arith, below, power)

-- and so do the first of them
pub prefix_small : (xs : List ℕ) (i : ℕ) → length xs ≤ 8 → list_all is_digit (halves (take i xs)) ≡ true
    → value 10 (halves (take i xs)) < 10 ^ 16
prefix_small xs i few h = pairs_small (take i xs) (omega (arith, length-take i xs)) h

-- a half byte above 9 is no digit
pub not_digits : (xs : List ℕ) (i : ℕ) → i < length xs
    → ((9 < get_or xs i 0 / 16) ⊎ ((get_or xs i 0 / 16 ≤ 9) × (9 < get_or xs i 0 % 16)))
    → list_all is_digit (halves xs) ≡ false
not_digits [] i lt either = absurd (omega arith)
not_digits (x ∷ xs) zero lt (inl high) = rw (le-ltb (x / 16) 10 (omega arith)) refl
not_digits (x ∷ xs) zero lt (inr low) = rw (le-ltb (x % 16) 10 (omega (arith, low.1))) (and-false (is_digit (x / 16)))
not_digits (x ∷ xs) (suc i) lt either =
    rw (not_digits xs i (omega arith) either, and-false (is_digit (x % 16))) (and-false (is_digit (x / 16)))

-- a byte of two digits more
pub digits_snoc : (xs : List ℕ) (b : ℕ) → list_all is_digit (halves xs) ≡ true → b / 16 ≤ 9 → b % 16 ≤ 9
    → list_all is_digit (halves (xs ++ b ∷ [])) ≡ true
digits_snoc xs b h high low = rw (
  halves_snoc xs b,
  list_all-append is_digit (halves xs) (b / 16 ∷ b % 16 ∷ []),
  h,
  lt-ltb (b / 16) 10 (omega arith),
  lt-ltb (b % 16) 10 (omega arith),
) refl

-- two digits more
pub pair_snoc : (xs : List ℕ) (b : ℕ) → value 10 (halves (xs ++ b ∷ [])) ≡ value 10 (halves xs) * 100 + b / 16 * 10 + b
    % 16
pair_snoc xs b =
    let apart : halves (xs ++ b ∷ []) ≡ (halves xs ++ b / 16 ∷ []) ++ b % 16 ∷ [] =
    halves_snoc xs b ∙ sym (append_assoc (halves xs) (b / 16 ∷ []) (b % 16 ∷ [])) in
    rw (apart, value_snoc 10 (halves xs ++ b / 16 ∷ []) (b % 16), value_snoc 10 (halves xs) (b / 16)) (omega arith)

-- the last byte of packed bytes has one digit
pub packed_digits_snoc : (front : List ℕ) (last : ℕ)
    → packed_digits (front ++ last ∷ []) ≡ halves front ++ last / 16 ∷ []
packed_digits_snoc [] last = refl
packed_digits_snoc (b ∷ []) last = refl
packed_digits_snoc (b ∷ c ∷ bs) last = ap (λ (t : List ℕ). b / 16 ∷ b % 16 ∷ t) (packed_digits_snoc (c ∷ bs) last)

-- and the sign
pub packed_sign_snoc : (front : List ℕ) (last : ℕ) → packed_sign (front ++ last ∷ []) ≡ last % 16
packed_sign_snoc [] last = refl
packed_sign_snoc (b ∷ []) last = refl
packed_sign_snoc (b ∷ c ∷ bs) last = packed_sign_snoc (c ∷ bs) last

-- what packed bytes are, from their last byte and those in front of it
pub magnitude_snoc : (front : List ℕ) (last : ℕ) → magnitude (front ++ last ∷ [])
    ≡ (if (list_all is_digit (halves front) && (is_digit (last / 16) && true)) && nat_le 10 (last % 16) then Some
    (value 10 (halves front) * 10 + last / 16) else None)
magnitude_snoc front last = rw (
  packed_digits_snoc front last,
  packed_sign_snoc front last,
  list_all-append is_digit (halves front) (last / 16 ∷ []),
  value_snoc 10 (halves front) (last / 16),
) refl

-- the bytes before one of at most eight
pub prefix_below : (xs : List ℕ) (i : ℕ) → length xs ≤ 8 → ((j : ℕ) → get_or xs j 0 < 256) → i < length xs
    → value 256 (take i xs) < 256 ^ 7
prefix_below xs i few bytes lt =
    let len : length (take i xs) ≤ 7 = omega (arith, length-take i xs) in
    let below : value 256 (take i xs) < 256 ^ length (take i xs) =
    value_below 256 (take i xs) (λ j h. let within : j < i =
    omega (arith, length-take i xs) in rw (get_or-take i xs j 0 within) (bytes j)) in
    let some : 0 < 256 = omega arith in
    let power : 256 ^ length (take i xs) ≤ 256 ^ 7 = pow-le-pow_right some len in
    omega (arith, below, power)

-- what None and Some say of the test in front
tested_none : {A : Type 0} (b : Bool) (x : A) → None ≡ (if b then Some x else None) → b ≡ false
tested_none true x e = absurd cc
tested_none false x e = refl

pub tested_some : {A : Type 0} (b : Bool) (x y : A) → Some y ≡ (if b then Some x else None) → (b ≡ true) × (y ≡ x)
tested_some true x y e = (refl, cc)
tested_some false x y e = absurd cc

-- packed bytes are no number where those in front of the last are no digits
pub no_pairs : (text front : List ℕ) (last : ℕ) → text ≡ front ++ last ∷ [] → None ≡ pairs_value front
    → None ≡ magnitude text
no_pairs text front last is none = rw (is, magnitude_snoc front last, tested_none _ _ none) refl

-- nor where the last byte has no digit or no sign
pub bad_end : (text front : List ℕ) (last : ℕ) → text ≡ front ++ last ∷ []
    → ((9 < last / 16) ⊎ ((last / 16 ≤ 9) × (last % 16 < 10))) → None ≡ magnitude text
bad_end text front last is (inl high) = rw (
  is,
  magnitude_snoc front last,
  le-ltb (last / 16) 10 (omega arith),
  and-false (list_all is_digit (halves front)),
) refl
bad_end text front last is (inr low) = rw (
  is,
  magnitude_snoc front last,
  lt-leb 10 (last % 16) (omega (arith, low.1)),
  and-false (list_all is_digit (halves front) && (is_digit (last / 16) && true)),
) refl

-- else they are one
pub good_end : (text front : List ℕ) (last n : ℕ) → text ≡ front ++ last ∷ []
    → Some n ≡ pairs_value front → last / 16 ≤ 9 → 10 ≤ last % 16 → Some (n * 10 + last / 16) ≡ magnitude text
good_end text front last n is some high low =
    let t = tested_some _ _ _ some in
    rw (is, magnitude_snoc front last, t.0, t.1, lt-ltb (last / 16) 10 (omega arith), le-leb 10 (last % 16) low) refl

-- digits in front of others weigh a power of the base more
pub value_append : (base : ℕ) (xs ys : List ℕ) → value base (xs ++ ys) ≡ value base xs * base ^ length ys + value base
    ys
value_append base [] ys = omega arith
value_append base (x ∷ xs) ys = rw (value_append base xs ys, length-append xs ys, pow-add base (length xs) (length ys))
    (grind arith)

-- bytes in front of packed bytes are digits
packed_digits_append : (xs ys : List ℕ) → 1 ≤ length ys → packed_digits (xs ++ ys) ≡ halves xs ++ packed_digits ys
packed_digits_append xs [] some = absurd (omega arith)
packed_digits_append [] (y ∷ ys) some = refl
packed_digits_append (b ∷ []) (y ∷ ys) some = refl
packed_digits_append (b ∷ c ∷ bs) (y ∷ ys) some = ap (λ (t : List ℕ). b / 16 ∷ b % 16 ∷ t)
    (packed_digits_append (c ∷ bs) (y ∷ ys) some)

-- and do not touch the sign
packed_sign_append : (xs ys : List ℕ) → 1 ≤ length ys → packed_sign (xs ++ ys) ≡ packed_sign ys
packed_sign_append xs [] some = absurd (omega arith)
packed_sign_append [] (y ∷ ys) some = refl
packed_sign_append (b ∷ []) (y ∷ ys) some = refl
packed_sign_append (b ∷ c ∷ bs) (y ∷ ys) some = packed_sign_append (c ∷ bs) (y ∷ ys) some

-- a byte has two half bytes, and one of them is the sign
pub length-packed_digits : (bs : List ℕ) → length (packed_digits bs) ≡ 2 * length bs - 1
length-packed_digits [] = refl
length-packed_digits (b ∷ []) = refl
length-packed_digits (b ∷ c ∷ bs) = omega (arith, length-packed_digits (c ∷ bs))

-- the sign is the low half of the last byte
pub sign_is_last : (bs : List ℕ) → packed_sign bs ≡ get_or bs (length bs - 1) 0 % 16
sign_is_last [] = refl
sign_is_last (b ∷ []) = refl
sign_is_last (b ∷ c ∷ bs) =
    let at : length (b ∷ c ∷ bs) - 1 ≡ suc (length (c ∷ bs) - 1) = omega arith in
    rw at (sign_is_last (c ∷ bs))

-- what packed bytes are, cut in two
magnitude_append : (xs ys : List ℕ) → 1 ≤ length ys → magnitude (xs ++ ys)
    ≡ (if (list_all is_digit (halves xs) && list_all is_digit (packed_digits ys)) && nat_le 10 (packed_sign ys) then
    Some (value 10 (halves xs) * 10 ^ length (packed_digits ys) + value 10 (packed_digits ys)) else None)
magnitude_append xs ys some = rw (
  packed_digits_append xs ys some,
  packed_sign_append xs ys some,
  list_all-append is_digit (halves xs) (packed_digits ys),
  value_append 10 (halves xs) (packed_digits ys),
) refl

still_false : (a b c : Bool) → (b && c) ≡ false → ((a && b) && c) ≡ false
still_false true b c e = e
still_false false b c e = refl

-- packed bytes in front of which stand no digits
pub no_front : (text front back : List ℕ) → text ≡ front ++ back → 1 ≤ length back → None ≡ pairs_value front
    → None ≡ magnitude text
no_front text front back is some none = rw (is, magnitude_append front back some, tested_none _ _ none) refl

-- the last of them are no packed bytes
pub no_back : (text front back : List ℕ) → text ≡ front ++ back → 1 ≤ length back → None ≡ magnitude back
    → None ≡ magnitude text
no_back text front back is some none = rw (
  is,
  magnitude_append front back some,
  still_false (list_all is_digit (halves front)) _ _ (tested_none _ _ none),
) refl

-- digits in front of nine packed bytes
pub joined : (text front back : List ℕ) (high low : ℕ) → text ≡ front ++ back → length back ≡ 9
    → Some high ≡ pairs_value front → Some low ≡ magnitude back
    → Some (high * 100000000000000000 + low) ≡ magnitude text
joined text front back high low is nine some_high some_low =
    let h : (list_all is_digit (halves front) ≡ true) × (high ≡ value 10 (halves front)) =
    tested_some _ _ _ some_high in
    let l : ((list_all is_digit (packed_digits back) && nat_le 10 (packed_sign back)) ≡ true)
    × (low ≡ value 10 (packed_digits back)) = tested_some _ _ _ some_low in
    let both = and_parts (list_all is_digit (packed_digits back)) (nat_le 10 (packed_sign back)) l.0 in
    let digits : length (packed_digits back) ≡ 17 = omega (arith, length-packed_digits back) in
    rw (is, magnitude_append front back (omega arith), h.0, both.0, both.1, digits, h.1, l.1) refl

-- the two parts of bytes are these bytes
pub halved : (k : ℕ) (text front back : List ℕ) → front ≡ take k text → back ≡ drop k text → text ≡ front ++ back
halved k text front back first last = rw (first, last) (sym (take-append-drop k text))

-- packed bytes are a number where they have a magnitude, and the sign makes it one
pub unsigned_none : (bytes : List ℕ) → None ≡ magnitude bytes → None ≡ packed bytes
unsigned_none bytes none = rw (tested_none _ _ none) refl

-- else the sign makes the magnitude a number
pub signed_some : (bytes : List ℕ) (n : ℕ) → Some n ≡ magnitude bytes
    → Some (signed_by (packed_sign bytes) n) ≡ packed bytes
signed_some bytes n some = let t = tested_some _ _ _ some in rw (t.0, t.1) refl

-- with the sign read from the last byte
pub signed_at : (bytes : List ℕ) (n : ℕ) (z : ℤ) → z ≡ signed_by (get_or bytes (length bytes - 1) 0 % 16) n
    → Some n ≡ magnitude bytes → Some z ≡ packed bytes
signed_at bytes n z is some = rw (is, sym (sign_is_last bytes)) (signed_some bytes n some)
