-- Intervals by their bytes, and what a torn write, a sync and a whole write make of them.
use Rattle.std.proofs.Common.{◌≡◌, inl, inr, ℕ, ◌+◌, ◌-◌, ◌*◌, ◌<◌, ◌≤◌, false, List, [], ◌∷◌, ◌++◌, length, get_or, take, drop, refl, sym, ◌∙◌, ap, arith}
use Rattle.std.proofs.Math.Nat.{mul-le-mul_left}
use Rattle.std.proofs.lemmas.List.{ext_get_or, length-take, length-append, length-replicate, get_or-take, get_or-drop, get_or_append_left, get_or-append_right}
use Rattle.std.proofs.lemmas.Bool.{cases_lt}
use Rattle.std.proofs.lemmas.Bool.Decides.{nat_tests}
use Rattle.fp_site.specs.Disk.{Torn, Broken, covers, read_range, written}
use Rattle.fp_site.specs.Written.{zeros, written_other}
use Rattle.fp_site.specs.inside.Written.{get_or-append_zeros, written_some}
use Rattle.area_redo.specs.Redo.{interval_in}
use Rattle.plain_laws.proofs.Numbers.{apart}
use Rattle.fp_site.proofs.Ranges.{get_or-read, length_read, outside, read_same}

-- a data set with an interval's bytes has that interval
pub interval_is : (image bytes : List ℕ) (size ci : ℕ) → length bytes ≡ size
    → ((i : ℕ) → i < size → get_or image (ci * size + i) 0 ≡ get_or bytes i 0) → interval_in size image ci ≡ bytes
interval_is image bytes size ci long same =
    ext_get_or 0 (interval_in size image ci) bytes (length_read image (ci * size) size ∙ sym long)
    (λ i lt.
    let below : i < size = omega (arith, lt, length_read image (ci * size) size) in
    get_or-read image (ci * size) size i below ∙ same i below)

-- a write to an interval, torn in any way, leaves each other one that lies within the data set
pub torn_other : (size ci other : ℕ) (old image : List ℕ) → (other ≡ ci → ⊥) → (other + 1) * size ≤ length old
    → Torn (ci * size) size old image → interval_in size image other ≡ interval_in size old other
torn_other size ci other old image ne inside torn =
    let f : (other + 1) * size ≡ other * size + size = grind arith in
    read_same image old (other * size) size (λ i below. torn.others (other * size + i) (omega arith)
    (outside size ci other i ne below))

-- a write's bytes stand in its range
pub written_here : (old : List ℕ) (at : ℕ) (bytes : List ℕ) (i : ℕ) → i < length bytes
    → get_or (written old at bytes) (at + i) 0 ≡ get_or bytes i 0
written_here old at [] i lt = absurd (omega arith)
written_here old at (b ∷ bytes) i lt =
    let new = b ∷ bytes in
    let n = length old in
    let front = length (take at old) in
    let mid = at - n in
    let e1 : front + mid ≡ at = omega (arith, length-take at old) in
    get_or-append_right (take at old) (zeros mid ++ (new ++ drop (at + length new) old)) front (at + i) 0 refl
    (omega (arith, e1))
    ∙ get_or-append_right (zeros mid) (new ++ drop (at + length new) old) mid (at + i - front) 0
    (length-replicate mid 0) (omega (arith, e1))
    ∙ ap (λ k. get_or (new ++ drop (at + length new) old) k 0)
    (let e : at + i - front - mid ≡ i = omega (arith, e1) in e)
    ∙ get_or_append_left new (drop (at + length new) old) 0 i lt

-- a whole write ends at its end or beyond
pub written_reaches : (old : List ℕ) (at : ℕ) (bytes : List ℕ) → 1 ≤ length bytes
    → at + length bytes ≤ length (written old at bytes)
written_reaches old at bytes some = elim (cases_lt (length (written old at bytes)) (at + length bytes)) [
  | inr ge ↦ ge
  | inl lt ↦ let e = ap length (written_some old at bytes some) in
      omega (
        arith,
        lt,
        e,
        length-append (take at old)
            (zeros (at - length old) ++ (bytes ++ drop (at + length bytes) old)),
        length-append (zeros (at - length old))
            (bytes ++ drop (at + length bytes) old),
        length-append bytes
            (drop (at + length bytes) old),
        length-take at old,
        length-replicate {A = ℕ} (at - length old) 0,
      )
]

-- the interval that was written is there,
pub interval_written : (size ci : ℕ) (old bytes : List ℕ) → length bytes ≡ size
    → interval_in size (written old (ci * size) bytes) ci ≡ bytes
interval_written size ci old bytes long = interval_is (written old (ci * size) bytes) bytes size ci long
    (λ i lt. written_here old (ci * size) bytes i (omega arith))

-- and the others are as they were
pub interval_other : (size ci other : ℕ) (old bytes : List ℕ) → (other ≡ ci → ⊥) → length bytes ≡ size
    → interval_in size (written old (ci * size) bytes) other ≡ interval_in size old other
interval_other size ci other old bytes ne long =
    read_same (written old (ci * size) bytes) old (other * size) size
    (λ i below. written_other old (ci * size) bytes (other * size + i)
    (elim (cases_lt other ci) [
      | inl lt ↦ let e : (other + 1) * size ≤ ci * size = apart size other ci lt in
          let f : (other + 1) * size ≡ other * size + size = grind arith in inl (omega arith)
      | inr ge ↦ let lt : ci < other = omega arith in let e : (ci + 1) * size ≤ other * size = apart size ci other lt in
          let f : (ci + 1) * size ≡ ci * size + size = grind arith in inr (omega arith)
    ]))

-- after a failed write too
pub broken_other : (size ci other : ℕ) (old new : List ℕ) → (other ≡ ci → ⊥) → Broken (ci * size) size old new
    → interval_in size new other ≡ interval_in size old other
broken_other size ci other old new ne broken = read_same new old (other * size) size
    (λ i below. broken.others (other * size + i) (outside size ci other i ne below))
