-- What a read of a range gives.
use Rattle.std.proofs.Common.{◌*◌, ◌++◌, ◌+◌, ◌-◌, ◌<◌, ◌∙◌, ◌≡◌, ◌≤◌, List, arith, drop, false, get_or, inl, inr, length, sym, ℕ}
use Rattle.std.proofs.lemmas.Bool.{cases_lt}
use Rattle.std.proofs.lemmas.Bool.Decides.{nat_tests}
use Rattle.std.proofs.lemmas.List.{ext_get_or, get_or-drop, get_or-take, length-append, length-replicate, length-take}
use Rattle.fp_site.specs.Disk.{covers, read_range}
use Rattle.fp_site.specs.Written.{zeros}
use Rattle.fp_site.specs.inside.Written.{get_or-append_zeros}
use Rattle.plain_laws.proofs.Numbers.{apart}

-- and has the bytes from there on
pub get_or-read : (xs : List ℕ) (at count i : ℕ) → i < count
    → get_or (read_range xs at count) i 0 ≡ get_or xs (at + i) 0
get_or-read xs at count i below = get_or-take count (drop at xs ++ zeros count) i 0 below
    ∙ get_or-append_zeros (drop at xs) count i ∙ get_or-drop at xs i 0

-- what is read is as long as was asked
pub length_read : (xs : List ℕ) (at count : ℕ) → length (read_range xs at count) ≡ count
length_read xs at count = omega (
  arith,
  length-take count (drop at xs ++ zeros count),
  length-append (drop at xs)
      (zeros count),
  length-replicate {A = ℕ} count 0,
)

-- a place in one interval is in no other
pub outside : (size ci other i : ℕ) → (other ≡ ci → ⊥) → i < size → covers (ci * size) size (other * size + i) ≡ false
outside size ci other i ne below = elim (cases_lt other ci) [
  | inl lt ↦ let e : (other + 1) * size ≤ ci * size = apart size other ci lt in
      let f : (other + 1) * size ≡ other * size + size = grind arith in grind (arith, nat_tests)
  | inr ge ↦ let lt : ci < other = omega arith in let e : (ci + 1) * size ≤ other * size = apart size ci other lt in
      let f : (ci + 1) * size ≡ ci * size + size = grind arith in grind (arith, nat_tests)
]

-- two data sets with the same bytes in a range
pub read_same : (a b : List ℕ) (at count : ℕ) → ((i : ℕ) → i < count → get_or a (at + i) 0 ≡ get_or b (at + i) 0)
    → read_range a at count ≡ read_range b at count
read_same a b at count same =
    ext_get_or 0 (read_range a at count) (read_range b at count) (length_read a at count ∙ sym (length_read b at count))
    (λ i lt.
    let below : i < count = omega (arith, lt, length_read a at count) in
    get_or-read a at count i below ∙ same i below ∙ sym (get_or-read b at count i below))
