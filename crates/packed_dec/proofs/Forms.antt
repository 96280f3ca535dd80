-- Digits as they are written: pairs of them from the last, and the bytes of an unsigned number.
use Rattle.std.proofs.Common.{◌≡◌, ℕ, zero, suc, ◌+◌, ◌*◌, ◌^◌, ◌/◌, ◌%◌, ◌-◌, ◌<◌, ◌≤◌, List, [], ◌∷◌, ◌++◌, length, refl, sym, arith, append_assoc, append-nil, inl, inr}
use Rattle.std.proofs.lemmas.Bool.{cases_lt, le-ltb}
use Rattle.std.proofs.lemmas.Int.{ints}
use Rattle.std.proofs.Math.Nat.{pow-le-pow_right, pow-suc, pow-zero}
use Rattle.std.specs.Prelude.{ℤ, pos, negsuc, ◌≤ℤ◌, ◌<ℤ◌, None}
use Rattle.fp_model.specs.Numbers.{pairs, packed_form, big_endian, unsigned_of}

-- the high digits fill the front, and the low ones the back
pairs_apart : (k j high low : ℕ) → low < 100 ^ j → pairs (k + j) (high * 100 ^ j + low) ≡ pairs k high ++ pairs j low
pairs_apart k zero high low below =
    let none : low ≡ 0 = omega (arith, below, pow-zero 100) in
    let same : high * 100 ^ 0 + low ≡ high = omega (arith, none) in
    let size : k + 0 ≡ k = omega arith in
    rw (same, size) (sym (append-nil (pairs k high)))
pairs_apart k (suc j) high low below =
    let power : 100 ^ suc j ≡ 100 ^ j * 100 = pow-suc 100 j in
    let weigh : high * 100 ^ suc j ≡ high * 100 ^ j * 100 = rw power (grind arith) in
    let rest : low / 100 < 100 ^ j = omega (arith, below, power) in
    let up : (high * 100 ^ suc j + low) / 100 ≡ high * 100 ^ j + low / 100 = omega (arith, weigh) in
    let tens : (high * 100 ^ suc j + low) / 10 % 10 ≡ low / 10 % 10 = omega (arith, weigh) in
    let ones : (high * 100 ^ suc j + low) % 10 ≡ low % 10 = omega (arith, weigh) in
    let size : k + suc j ≡ suc (k + j) = omega arith in
    rw (size, up, tens, ones, pairs_apart k j high (low / 100) rest)
    (append_assoc (pairs k high) (pairs j (low / 100)) ((low / 10 % 10 * 16 + low % 10) ∷ []))

-- the last nine bytes hold seventeen digits and the sign
seventeen : (k n high low sign : ℕ) → n ≡ high * 100000000000000000 + low → low < 100000000000000000
    → pairs k high ++ packed_form 9 low sign ≡ packed_form (k + 9) n sign
seventeen k n high low sign is below =
    let size : k + 9 - 1 ≡ k + 8 = omega arith in
    let rest : low / 10 < 100 ^ 8 = omega arith in
    let up : n / 10 ≡ high * 100 ^ 8 + low / 10 = omega (arith, is) in
    let ones : n % 10 ≡ low % 10 = omega (arith, is) in
    rw (size, up, ones, pairs_apart k 8 high (low / 10) rest)
    (sym (append_assoc (pairs k high) (pairs 8 (low / 10)) ((low % 10 * 16 + sign) ∷ [])))

-- the same of two parts that were written
pub form_apart : (size k j n high low sign : ℕ) (front back : List ℕ) → front ≡ pairs k high
    → back ≡ packed_form j low sign → j ≡ 9 → size ≡ k + 9
    → n ≡ high * 100000000000000000 + low → low < 100000000000000000 → front ++ back ≡ packed_form size n sign
form_apart size k j n high low sign front back first last nine whole is below =
    rw (whole, first, last, nine) (seventeen k n high low sign is below)

-- a number below zero or past eight bytes has no unsigned bytes
pub no_room : (size : ℕ) (n : ℤ) → size ≤ 8 → (((pos 0 ≤ℤ n) × (n <ℤ pos (2 ^ 64))) → ⊥) → unsigned_of size n ≡ None
no_room size (negsuc n) few unfit = refl
no_room size (pos n) few unfit = elim (cases_lt n (256 ^ size)) [
  | inl below ↦
      let some : 0 < 256 = omega arith in
      let power : 256 ^ size ≤ 256 ^ 8 = pow-le-pow_right some few in
      let fits : n < 2 ^ 64 = omega (arith, below, power) in
      absurd (unfit (omega (arith, ints), omega (arith, ints, fits)))
  | inr above ↦ rw (le-ltb n (256 ^ size) above) refl
]
