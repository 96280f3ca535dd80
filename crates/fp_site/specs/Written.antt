-- What a write leaves: its length, and its bytes by their places. These laws stand here, and not in proofs/, since
-- definitions rest on them: a site in memory, of `memory_site`, has the trait's laws by them.
use Rattle.std.proofs.Common.{◌≡◌, ◌⊎◌, inl, inr, ℕ, zero, suc, ◌+◌, ◌-◌, ◌<◌, ◌≤◌, max, List, [], ◌∷◌, ◌++◌, length, get_or, take, drop, replicate, refl, sym, ◌∙◌, ap, arith}
use Rattle.std.proofs.lemmas.List.{length-take, length-drop, length-append, length-replicate, get_or_append_left, get_or-append_right, get_or-take, get_or-drop, get_or_past}
use Rattle.std.proofs.lemmas.Bool.{cases_lt}
use Rattle.fp_site.specs.Disk.{written}

-- so many zeros
abbrev pub zeros : ℕ → List ℕ
zeros n = replicate n 0

-- a write may lengthen, up to its end
pub length-written : (old : List ℕ) (at : ℕ) (bytes : List ℕ) → (length old ≤ length (written old at bytes))
    × (length (written old at bytes) ≤ max (length old) (at + length bytes))
length-written old at [] = (omega arith, omega arith)
length-written old at (b ∷ bytes) =
    let new = b ∷ bytes in
    let back = drop (at + length new) old in
    let len : length (written old at new) ≡ length (take at old) +
    (length (zeros (at - length old)) + (length new + length back)) =
    length-append (take at old) (zeros (at - length old) ++ (new ++ back)) ∙ ap (λ v. length (take at old) + v)
    (length-append (zeros (at - length old)) (new ++ back) ∙ ap (λ v. length (zeros (at - length old)) + v)
    (length-append new back)) in
    let front = length-take at old in
    let mid = length-replicate {A = ℕ} (at - length old) 0 in
    let end = length-drop (at + length new) old in
    (omega arith, omega arith)

-- zeros behind a list read as what is past its end
pub get_or_zeros : (n k : ℕ) → ◌≡◌ {A = ℕ} (get_or (zeros n) k 0) 0
get_or_zeros zero k = refl
get_or_zeros (suc n) zero = refl
get_or_zeros (suc n) (suc k) = get_or_zeros n k

-- the bytes outside the range stay
pub written_other : (old : List ℕ) (at : ℕ) (bytes : List ℕ) (i : ℕ) → (i < at) ⊎ (at + length bytes ≤ i)
    → get_or (written old at bytes) i 0 ≡ get_or old i 0
written_other old at [] i out = refl
written_other old at (b ∷ bytes) i (inl below) = elim (cases_lt i (length old)) [
  | inl inside ↦ get_or_append_left (take at old) _ 0 i (omega (arith, length-take at old)) ∙ get_or-take at old i 0
      below
  | inr past ↦
      let n = length old in
      let short : length (take at old) ≡ n = omega (arith, length-take at old) in
      get_or-append_right (take at old) (zeros (at - n) ++ ((b ∷ bytes) ++ drop (at + length (b ∷ bytes)) old)) n i 0
      short past
      ∙ get_or_append_left (zeros (at - n)) _ 0 (i - n) (omega (arith, length-replicate {A = ℕ} (at - n) 0))
      ∙ get_or_zeros (at - n) (i - n)
      ∙ sym (get_or_past old i 0 past)
]
written_other old at (b ∷ bytes) i (inr behind) =
    let new = b ∷ bytes in
    let n = length old in
    let back = drop (at + length new) old in
    let front = length (take at old) in
    let mid = at - n in
    let e1 : front + mid ≡ at = omega (arith, length-take at old) in
    get_or-append_right (take at old) (zeros mid ++ (new ++ back)) front i 0 refl (omega (arith, e1))
    ∙ get_or-append_right (zeros mid) (new ++ back) mid (i - front) 0 (length-replicate mid 0) (omega (arith, e1))
    ∙ get_or-append_right new back (length new) (i - front - mid) 0 refl (omega (arith, e1))
    ∙ get_or-drop (at + length new) old (i - front - mid - length new) 0
    ∙ ap (λ k. get_or old k 0) (omega (arith, e1))
