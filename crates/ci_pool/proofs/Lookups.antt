-- What cells have of each interval, after each change.
use Rattle.std.proofs.Common.{◌≡◌, inl, inr, ℕ, true, false, ◌&&◌, List, [], ◌∷◌, ◌++◌, refl, sym, ◌∙◌, ap, arith}
use Rattle.std.specs.Prelude.{Option, Some, None, ◌==◌, option_map, if◌then◌else◌, IsTrue}
use Rattle.std.proofs.lemmas.Bool.{cases_Bool, or_parts}
use Rattle.std.proofs.lemmas.Bool.Decides.{nat_tests}
use Rattle.ci_pool.specs.declared.cell.Cell.{Cell}
use Rattle.ci_pool.specs.Cells.{comes_before, is_of, cell_at, Listed}
use Rattle.ci_pool.specs.Changes.{is_staged, any_staged, AllCells, Follows, IsAscending}
use Rattle.ci_pool.specs.inside.Changes.{is_only_staged, without, with_cell, published, all_published, all_unstaged, unstaged_by, after_write, after_write_by, staged_cell, unlisted, unlisted_one}
use Rattle.ci_pool.proofs.Lists.{all_map, none_behind, none_this, of_same, all_of_unstaged}
use Rattle.plain_laws.proofs.Numbers.{both_numbers}

-- the cell of an interval is of it
pub of_found : (set ci : ℕ) (l : List Cell) (c : Cell) → cell_at set ci l ≡ Some c → is_of set ci c ≡ true
of_found set ci [] c is = absurd (cc)
of_found set ci (x ∷ l) c is = elim (cases_Bool (is_of set ci x)) [
  | inl here ↦ let first : Some x ≡ Some c = rw here at is in let same : x ≡ c = cc in ap (is_of set ci) (sym same)
      ∙ here
  | inr other ↦ of_found set ci l c (rw other at is)
]

-- two ways to say it
pub key_sym : (s k set ci : ℕ) → (s == set && k == ci) ≡ (set == s && ci == k)
key_sym s k set ci = grind (arith, nat_tests)

-- once what is staged is published,
pub at_published : (place s k : ℕ) (l : List Cell) → cell_at s k (all_published place l) ≡ option_map (published place)
    (cell_at s k l)
at_published place s k [] = refl
at_published place s k (c ∷ l) = elim (cases_Bool (is_of s k c)) [
  | inl is ↦ rw is refl
  | inr other ↦ rw other (at_published place s k l)
]

-- or dropped,
pub at_unstaged : (s k : ℕ) (l : List Cell) → IsAscending l → cell_at s k (all_unstaged l) ≡ unstaged_by (cell_at s k l)
at_unstaged s k [] a = refl
at_unstaged s k (c ∷ l) a = elim (cases_Bool (is_of s k c)) [
  | inl is ↦ elim (cases_Bool (is_only_staged c)) [
    | inl only ↦
        let same = of_same s k c is in
        let behind : AllCells (λ b. IsTrue (comes_before s k b.set b.ci)) l = all_map (Follows c)
        (λ b. IsTrue (comes_before s k b.set b.ci)) l (λ b f. cc) a.0 in
        rw (only, is) (rw only (none_behind s k (all_unstaged l) (all_of_unstaged s k l behind)))
    | inr both ↦ rw (both, is) (rw both refl)
  ]
  | inr other ↦ elim (cases_Bool (is_only_staged c)) [
    | inl only ↦ rw (only, other) (at_unstaged s k l a.1)
    | inr both ↦ rw (both, other) (at_unstaged s k l a.1)
  ]
]

-- one taken out,
pub at_without : (set ci s k : ℕ) (l : List Cell) → IsAscending l
    → cell_at s k (without set ci l) ≡ (if s == set && k == ci then None else cell_at s k l)
at_without set ci s k [] a = elim (cases_Bool (s == set && k == ci)) [ inl is ↦ rw is refl | inr other ↦ rw other refl ]
at_without set ci s k (c ∷ l) a = elim (cases_Bool (is_of set ci c)) [
  | inl here ↦ elim (cases_Bool (s == set && k == ci)) [
    | inl is ↦
        let keys = both_numbers s k set ci is in
        let same = of_same set ci c here in
        let behind : AllCells (λ b. IsTrue (comes_before s k b.set b.ci)) l = all_map (Follows c)
        (λ b. IsTrue (comes_before s k b.set b.ci)) l (λ b f. cc) a.0 in
        rw (here, is) (none_behind s k l behind)
    | inr other ↦
        let not : is_of s k c ≡ false = grind (arith, nat_tests) in
        rw (here, other, not) refl
  ]
  | inr there ↦ elim (cases_Bool (is_of s k c)) [
    | inl is ↦
        let not : (s == set && k == ci) ≡ false = grind (arith, nat_tests) in
        rw (there, is, not) refl
    | inr other ↦ rw (there, other) (at_without set ci s k l a.1)
  ]
]

-- one put in
pub at_with : (new : Cell) (s k : ℕ) (l : List Cell) → cell_at new.set new.ci l ≡ None
    → cell_at s k (with_cell new l) ≡ (if s == new.set && k == new.ci then Some new else cell_at s k l)
at_with new s k [] none = ap (λ b. if b then Some new else None) (key_sym new.set new.ci s k)
at_with new s k (c ∷ l) none =
    let not = none_this new.set new.ci c l none in
    elim (cases_Bool (comes_before c.set c.ci new.set new.ci)) [
      | inr other ↦ rw other (ap (λ b. if b then Some new else cell_at s k (c ∷ l)) (key_sym new.set new.ci s k))
      | inl before ↦ elim (cases_Bool (is_of s k c)) [
        | inl is ↦
            let apart : (s == new.set && k == new.ci) ≡ false = grind (arith, nat_tests) in
            rw (before, is, apart) refl
        | inr there ↦ rw (before, there) (at_with new s k l (rw not at none))
      ]
    ]

-- the one taken out is gone
pub gone : (set ci : ℕ) (l : List Cell) → IsAscending l → cell_at set ci (without set ci l) ≡ None
gone set ci l a = let same : (set == set && ci == ci) ≡ true = grind (arith, nat_tests) in at_without set ci set ci l a
    ∙ rw same refl

-- a cell with staged bytes is of the interval whose cell it was
pub staged_key : (set ci : ℕ) (bytes : List ℕ) (l : List Cell) (o : Option Cell) → cell_at set ci l ≡ o
    → ((staged_cell set ci bytes o).set ≡ set) × ((staged_cell set ci bytes o).ci ≡ ci)
staged_key set ci bytes l None is = (refl, refl)
staged_key set ci bytes l (Some c) is = of_same set ci c (of_found set ci l c is)

-- bytes are staged,
pub at_staged : (set ci s k : ℕ) (bytes : List ℕ) (l : List Cell) → IsAscending l
    → cell_at s k (with_cell (staged_cell set ci bytes (cell_at set ci l)) (without set ci l)) ≡
    (if s == set && k == ci then Some (staged_cell set ci bytes (cell_at set ci l)) else cell_at s k l)
at_staged set ci s k bytes l a =
    let new = staged_cell set ci bytes (cell_at set ci l) in
    let key = staged_key set ci bytes l (cell_at set ci l) refl in
    let free : cell_at new.set new.ci (without set ci l) ≡ None = rw (key.0, key.1) (gone set ci l a) in
    at_with new s k (without set ci l) free
    ∙ ap (λ n. if s == n && k == new.ci then Some new else cell_at s k (without set ci l)) key.0
    ∙ ap (λ n. if s == set && k == n then Some new else cell_at s k (without set ci l)) key.1
    ∙ elim (cases_Bool (s == set && k == ci)) [
      | inl is ↦ rw is refl
      | inr other ↦ rw other (at_without set ci s k l a ∙ rw other refl)
    ]

-- an interval is written: one that has no cell,
pub at_written_none : (set ci s k : ℕ) (l : List Cell) → IsAscending l → cell_at set ci l ≡ None
    → cell_at s k (without set ci l) ≡ (if s == set && k == ci then after_write_by (cell_at s k l) else cell_at s k l)
at_written_none set ci s k l a none = at_without set ci s k l a ∙ elim (cases_Bool (s == set && k == ci)) [
  | inl is ↦
      let keys = both_numbers s k set ci is in
      let nothing : cell_at s k l ≡ None = ap (λ n. cell_at n k l) keys.0 ∙ ap (λ n. cell_at set n l) keys.1 ∙ none in
      rw is (sym (ap after_write_by nothing))
  | inr other ↦ rw other refl
]

-- or one that has
pub at_written : (set ci s k : ℕ) (l : List Cell) (c : Cell) → IsAscending l → cell_at set ci l ≡ Some c
    → cell_at s k (if is_staged c then with_cell (after_write c) (without set ci l) else without set ci l) ≡
    (if s == set && k == ci then after_write_by (cell_at s k l) else cell_at s k l)
at_written set ci s k l c a is = elim (cases_Bool (is_staged c)) [
  | inl staged ↦
      let key = of_same set ci c (of_found set ci l c is) in
      let new = after_write c in
      let free : cell_at new.set new.ci (without set ci l) ≡ None = rw (key.0, key.1) (gone set ci l a) in
      rw staged (at_with new s k (without set ci l) free
      ∙ ap (λ n. if s == n && k == new.ci then Some new else cell_at s k (without set ci l)) key.0
      ∙ ap (λ n. if s == set && k == n then Some new else cell_at s k (without set ci l)) key.1
      ∙ elim (cases_Bool (s == set && k == ci)) [
        | inl here ↦
            let keys = both_numbers s k set ci here in
            let this : cell_at s k l ≡ Some c = ap (λ n. cell_at n k l) keys.0 ∙ ap (λ n. cell_at set n l) keys.1
            ∙ is in
            let made : after_write_by (Some c) ≡ Some (after_write c) = rw staged refl in
            rw here (sym (ap after_write_by this ∙ made))
        | inr other ↦ rw other (at_without set ci s k l a ∙ rw other refl)
      ])
  | inr bare ↦ rw bare (at_without set ci s k l a ∙ elim (cases_Bool (s == set && k == ci)) [
    | inl here ↦
        let keys = both_numbers s k set ci here in
        let this : cell_at s k l ≡ Some c = ap (λ n. cell_at n k l) keys.0 ∙ ap (λ n. cell_at set n l) keys.1 ∙ is in
        let made : after_write_by (Some c) ≡ None = rw bare refl in
        rw here (sym (ap after_write_by this ∙ made))
    | inr other ↦ rw other refl
  ])
]

-- what is taken out of the clean ones, in parts,
pub unlisted_append : (l : List Cell) (c : Cell) (r : List Cell) (listed : Listed)
    → unlisted (l ++ c ∷ r) listed ≡ unlisted r (unlisted_one c (unlisted l listed))
unlisted_append [] c r listed = refl
unlisted_append (x ∷ l) c r listed = unlisted_append l c r (unlisted_one x listed)

-- and nothing where nothing is staged
pub unlisted_none : (l : List Cell) (listed : Listed) → any_staged l ≡ false → unlisted l listed ≡ listed
unlisted_none [] listed none = refl
unlisted_none (c ∷ l) listed none =
    let parts = or_parts (is_staged c) (any_staged l) none in
    rw parts.0 (unlisted_none l listed parts.1)
