-- The clean intervals without those of which bytes are staged.
use Rattle.std.proofs.Common.{◌≡◌, inl, inr, ℕ, Bool, true, false, cond, ◌&&◌, ◌||◌, List, [], ◌∷◌, filter, not, Contains, refl, sym, ◌∙◌, ap, subst, arith}
use Rattle.std.specs.Prelude.{◌==◌, is_some, IsTrue}
use Rattle.std.specs.List.{IsDistinct, AllByRecursion}
use Rattle.std.specs.Map.{keys_of, remove_entry}
use Rattle.std.proofs.lemmas.Bool.{cases_Bool}
use Rattle.std.proofs.lemmas.Bool.Decides.{nat_tests}
use Rattle.std.proofs.lemmas.Map.Made.{IsDistinct-keys_filter}
use Rattle.lru.proofs.Splits.{Contains-cons, Contains-nil, Contains-tail, Contains-head}
use Rattle.ci_pool.specs.declared.cell.Cell.{Cell}
use Rattle.ci_pool.specs.Cells.{Listed, is_key, is_of, comes_before, cell_at}
use Rattle.ci_pool.specs.Changes.{is_staged, AllCells, Follows, IsAscending}
use Rattle.ci_pool.specs.inside.Changes.{unlisted, unlisted_one}
use Rattle.ci_pool.specs.Held.{staged_of}
use Rattle.ci_pool.proofs.Lists.{of_same, all_map}

abbrev Entry : Type 0
Entry = (ℕ × ℕ) × List ℕ

abbrev same_key : ℕ × ℕ → ℕ × ℕ → Bool
same_key a b = a.0 == b.0 && a.1 == b.1

-- some cell has staged bytes for this key
abbrev staged_in : List Cell → ℕ × ℕ → Bool
staged_in [] key = false
staged_in (cell ∷ cells) key = (is_staged cell && is_key cell.set cell.ci key) || staged_in cells key

filter_same : (p q : Entry → Bool) (es : Listed) → ((e : Entry) → p e ≡ q e) → filter p es ≡ filter q es
filter_same p q [] same = refl
filter_same p q (e ∷ es) same = rw (same e) (ap (λ r. cond (q e) (e ∷ r) r) (filter_same p q es same))

filter_all : (p : Entry → Bool) (es : Listed) → ((e : Entry) → p e ≡ true) → filter p es ≡ es
filter_all p [] all = refl
filter_all p (e ∷ es) all = rw (all e) (ap (λ r. e ∷ r) (filter_all p es all))

filter_twice : (p q : Entry → Bool) (es : Listed) → filter p (filter q es) ≡ filter (λ e. q e && p e) es
filter_twice p q [] = refl
filter_twice p q (e ∷ es) = elim (cases_Bool (q e)) [
  | inl t ↦ rw t (ap (λ r. cond (p e) (e ∷ r) r) (filter_twice p q es))
  | inr f ↦ rw f (filter_twice p q es)
]

-- where keys are distinct, no later one is equal to the first
later_differ : (set ci : ℕ) (k : ℕ × ℕ) (es : Listed) → is_key set ci k ≡ true
    → AllByRecursion (λ y. same_key k y ≡ false) (keys_of es) → filter (λ e. not (is_key set ci e.0)) es ≡ es
later_differ set ci k [] is a = refl
later_differ set ci k (e ∷ es) is a =
    let other : is_key set ci e.0 ≡ false = let d = a.0 in grind (arith, nat_tests) in
    rw other (ap (λ r. e ∷ r) (later_differ set ci k es is a.1))

removed_filter : (set ci : ℕ) (es : Listed) → IsDistinct same_key (keys_of es)
    → remove_entry (is_key set ci) es ≡ filter (λ e. not (is_key set ci e.0)) es
unfolding IsDistinct
removed_filter set ci [] d = refl
removed_filter set ci (e ∷ es) d = elim (cases_Bool (is_key set ci e.0)) [
  | inl is ↦ rw is (sym (later_differ set ci e.0 es is d.0))
  | inr other ↦ rw other (ap (λ r. e ∷ r) (removed_filter set ci es d.1))
]

one_filter : (c : Cell) (es : Listed) → IsDistinct same_key (keys_of es)
    → unlisted_one c es ≡ filter (λ e. not (is_staged c && is_key c.set c.ci e.0)) es
one_filter c es d = elim (cases_Bool (is_staged c)) [
  | inl t ↦ rw t (removed_filter c.set c.ci es d)
  | inr f ↦ rw f (sym (filter_all (λ e. not (false && is_key c.set c.ci e.0)) es (λ e. refl)))
]

unlisted_filter : (cells : List Cell) (es : Listed) → IsDistinct same_key (keys_of es)
    → unlisted cells es ≡ filter (λ e. not (staged_in cells e.0)) es
unlisted_filter [] es d = sym (filter_all (λ e. not false) es (λ e. refl))
unlisted_filter (c ∷ cells) es d =
    let p = λ (e : Entry). not (is_staged c && is_key c.set c.ci e.0) in
    let one = one_filter c es d in
    rw one (unlisted_filter cells (filter p es) (IsDistinct-keys_filter same_key p es d)
    ∙ filter_twice (λ e. not (staged_in cells e.0)) p es
    ∙ filter_same _ (λ e. not (staged_in (c ∷ cells) e.0)) es
    (λ e. not_or (is_staged c && is_key c.set c.ci e.0) (staged_in cells e.0)))
  where
    not_or : (a b : Bool) → (not a && not b) ≡ not (a || b)
    not_or true b = refl
    not_or false b = refl

-- no later cell is of the interval of one that it follows
none_staged : (s k : ℕ) (cells : List Cell) → AllCells (λ c. IsTrue (comes_before s k c.set c.ci)) cells
    → staged_in cells (s, k) ≡ false
none_staged s k [] a = refl
none_staged s k (c ∷ cells) a =
    let other : is_key c.set c.ci (s, k) ≡ false = let b = a.0 in grind (arith, nat_tests) in
    rw (other, none_staged s k cells a.1) (and_false (is_staged c))
  where
    and_false : (b : Bool) → ((b && false) || false) ≡ false
    and_false true = refl
    and_false false = refl

-- cells have staged bytes of an interval where its cell has
staged_is : (s k : ℕ) (cells : List Cell) → IsAscending cells
    → staged_in cells (s, k) ≡ is_some (staged_of (cell_at s k cells))
staged_is s k [] a = refl
staged_is s k (c ∷ cells) a = elim (cases_Bool (is_of s k c)) [
  | inl is ↦
      let same = of_same s k c is in
      let behind : AllCells (λ b. IsTrue (comes_before s k b.set b.ci)) cells = all_map (Follows c)
      (λ b. IsTrue (comes_before s k b.set b.ci)) cells (λ b f. cc) a.0 in
      rw (is, none_staged s k cells behind) (and_or (is_staged c))
  | inr other ↦ rw other (none_here (is_staged c) (staged_in cells (s, k)) ∙ staged_is s k cells a.1)
]
  where
    and_or : (b : Bool) → ((b && true) || false) ≡ b
    and_or true = refl
    and_or false = refl

    none_here : (b r : Bool) → ((b && false) || r) ≡ r
    none_here true r = refl
    none_here false r = refl

-- the clean intervals are cut to those of which nothing is staged,
pub unlisted_is : (cells : List Cell) (es : Listed) → IsAscending cells → IsDistinct same_key (keys_of es)
    → unlisted cells es ≡ filter (λ e. not (is_some (staged_of (cell_at e.0.0 e.0.1 cells)))) es
unlisted_is cells es a d = unlisted_filter cells es d ∙ filter_same (λ e. not (staged_in cells e.0))
    (λ e. not (is_some (staged_of (cell_at e.0.0 e.0.1 cells)))) es (λ e. ap not (staged_is e.0.0 e.0.1 cells a))

-- of those that pass a test each did, and was there
pub in_filter : (p : Entry → Bool) (es : Listed) (e : Entry) → Contains (filter p es) e → Contains es e × (p e ≡ true)
in_filter p [] e c = absurd (Contains-nil e c)
in_filter p (x ∷ es) e c = elim (cases_Bool (p x)) [
  | inl t ↦ elim (Contains-cons x (filter p es) e (rw t at c)) [
    | inl same ↦ (subst (Contains (x ∷ es)) same (Contains-head x es), ap p (sym same) ∙ t)
    | inr rest ↦ let r = in_filter p es e rest in (Contains-tail x es e r.0, r.1)
  ]
  | inr f ↦ let r = in_filter p es e (rw f at c) in (Contains-tail x es e r.0, r.1)
]
