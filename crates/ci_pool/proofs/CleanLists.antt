-- The list of clean intervals: one brought to its head, and what stands on it then.
use Rattle.std.proofs.Common.{◌≡◌, ◌⊎◌, inl, inr, ℕ, suc, ◌-◌, ◌<◌, ◌≤◌, ◌∙◌, Bool, true, false, ◌&&◌, List, [], ◌∷◌, length, take, Contains, refl, sym, ap, arith}
use Rattle.std.specs.Prelude.{Some, None, ◌==◌}
use Rattle.std.specs.Map.{lookup, lookup_entry, remove_entry}
use Rattle.std.proofs.lemmas.Bool.{cases_Bool}
use Rattle.std.proofs.lemmas.Bool.Decides.{nat_tests}
use Rattle.std.proofs.lemmas.List.{take_all}
use Rattle.lru.specs.LruCache.{lru_cache, promoted, put_entries}
use Rattle.lru.proofs.CallerLemmas.{Contains-take, Contains-remove_entry}
use Rattle.lru.proofs.Splits.{Contains-cons}
use Rattle.ci_pool.specs.Cells.{Listed, is_key}
use Rattle.ci_pool.specs.Held.{brought_first}

abbrev Entry : Type 0
Entry = (ℕ × ℕ) × List ℕ

-- the entry that a look-up finds has the interval's key
pub entry_is : (set ci : ℕ) (es : Listed) (v : List ℕ) → lookup (is_key set ci) es ≡ Some v
    → lookup_entry (is_key set ci) es ≡ Some ((set, ci), v)
entry_is set ci [] v is = absurd (cc)
entry_is set ci (e ∷ es) v is = elim (cases_Bool (is_key set ci e.0)) [
  | inl here ↦
      let first : Some e.1 ≡ Some v = rw here at is in
      let a : set ≡ e.0.0 = grind (arith, nat_tests) in
      let b : ci ≡ e.0.1 = grind (arith, nat_tests) in
      let c : e.1 ≡ v = cc in
      rw here (λ i. Some ((sym a i, sym b i), c i))
  | inr other ↦ rw other (entry_is set ci es v (rw other at is))
]

pub no_entry : (test : ℕ × ℕ → Bool) (es : Listed) → lookup test es ≡ None → lookup_entry test es ≡ None
no_entry test [] none = refl
no_entry test (e ∷ es) none = elim (cases_Bool (test e.0)) [
  | inl here ↦ let bad : Some e.1 ≡ None = rw here at none in cc
  | inr other ↦ rw other (no_entry test es (rw other at none))
]

-- nothing is taken out where nothing is found,
pub remove_none : (test : ℕ × ℕ → Bool) (es : Listed) → lookup test es ≡ None → remove_entry test es ≡ es
remove_none test [] none = refl
remove_none test (e ∷ es) none = elim (cases_Bool (test e.0)) [
  | inl here ↦ let bad : Some e.1 ≡ None = rw here at none in cc
  | inr other ↦ rw other (ap (λ r. e ∷ r) (remove_none test es (rw other at none)))
]

-- and one is where one is
pub length_removed : (test : ℕ × ℕ → Bool) (es : Listed) (v : List ℕ) → lookup test es ≡ Some v
    → suc (length (remove_entry test es)) ≡ length es
length_removed test [] v is = absurd (cc)
length_removed test (e ∷ es) v is = elim (cases_Bool (test e.0)) [
  | inl here ↦ rw here refl
  | inr other ↦ rw other (ap suc (length_removed test es v (rw other at is)))
]

-- an interval of the list is used again,
pub used_again : (cap set ci : ℕ) (es : Listed) (v : List ℕ) → lookup (is_key set ci) es ≡ Some v → length es ≤ cap
    → promoted (is_key set ci) es ≡ brought_first cap set ci v es
used_again cap set ci es v is within =
    let e = entry_is set ci es v is in
    let n = length_removed (is_key set ci) es v is in
    rw e (sym (take_all cap (((set, ci), v) ∷ remove_entry (is_key set ci) es) (omega (arith, n))))

-- or another is put there
pub added : (cap set ci : ℕ) (es : Listed) (v : List ℕ) → lookup (is_key set ci) es ≡ None → 0 < cap
    → put_entries (λ a b. a.0 == b.0 && a.1 == b.1) (lru_cache es cap) (set, ci) v ≡ brought_first cap set ci v es
added cap set ci es v none some =
    let e = no_entry (is_key set ci) es none in
    let r = remove_none (is_key set ci) es none in
    let s : suc (cap - 1) ≡ cap = omega arith in
    rw (e, r) (ap (λ n. take n (((set, ci), v) ∷ es)) s)

-- what is on the list then
pub on_list : (cap set ci s k : ℕ) (es : Listed) (v b : List ℕ) → Contains (brought_first cap set ci v es) ((s, k), b)
    → ((s ≡ set) × (k ≡ ci) × (b ≡ v)) ⊎ Contains es ((s, k), b)
on_list cap set ci s k es v b c =
    elim (Contains-cons ((set, ci), v) (remove_entry (is_key set ci) es) ((s, k), b)
    (Contains-take cap (((set, ci), v) ∷ remove_entry (is_key set ci) es) ((s, k), b) c)) [
      | inl same ↦ inl (
        sym (ap (λ (e : Entry). e.0.0) same),
        sym (ap (λ (e : Entry). e.0.1) same),
        sym (ap (λ (e : Entry). e.1) same),
      )
      | inr rest ↦ inr (Contains-remove_entry (is_key set ci) es ((s, k), b) rest)
    ]

-- ---- what a look-up finds then

other_key : (set ci s k : ℕ) (key : ℕ × ℕ) → is_key set ci key ≡ true → is_key s k (set, ci) ≡ false
    → is_key s k key ≡ false
other_key set ci s k key here other =
    let a : set ≡ key.0 = grind (arith, nat_tests) in
    let b : ci ≡ key.1 = grind (arith, nat_tests) in
    let same : (set, ci) ≡ key = λ i. (a i, b i) in
    sym (ap (is_key s k) same) ∙ other

found_without : (set ci s k : ℕ) (es : Listed) → is_key s k (set, ci) ≡ false
    → lookup (is_key s k) (remove_entry (is_key set ci) es) ≡ lookup (is_key s k) es
found_without set ci s k [] other = refl
found_without set ci s k (e ∷ es) other = elim (cases_Bool (is_key set ci e.0)) [
  | inl here ↦
      let apart = other_key set ci s k e.0 here other in
      rw (here, apart) refl
  | inr there ↦ rw there (elim (cases_Bool (is_key s k e.0)) [
    | inl this ↦ rw this refl
    | inr that ↦ rw that (found_without set ci s k es other)
  ])
]

-- one that is used again, and every other, is found as before
pub found_again : (cap set ci s k : ℕ) (es : Listed) (v : List ℕ) → lookup (is_key set ci) es ≡ Some v → length es ≤ cap
    → lookup (is_key s k) (brought_first cap set ci v es) ≡ lookup (is_key s k) es
found_again cap set ci s k es v is within =
    let n = length_removed (is_key set ci) es v is in
    let all : brought_first cap set ci v es ≡ ((set, ci), v) ∷ remove_entry (is_key set ci) es =
    take_all cap (((set, ci), v) ∷ remove_entry (is_key set ci) es) (omega (arith, n)) in
    ap (lookup (is_key s k)) all ∙ elim (cases_Bool (is_key s k (set, ci))) [
      | inl this ↦
          let a : s ≡ set = grind (arith, nat_tests) in
          let b : k ≡ ci = grind (arith, nat_tests) in
          let found : lookup (is_key s k) es ≡ Some v = ap (λ x. lookup (is_key x k) es) a
          ∙ ap (λ x. lookup (is_key set x) es) b ∙ is in
          rw (this, found) refl
      | inr other ↦ rw other (found_without set ci s k es other)
    ]
