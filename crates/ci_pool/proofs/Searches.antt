-- The first cell that passes a test, and the least number of cells.
use Rattle.std.proofs.Common.{◌≡◌, inl, inr, ℕ, ◌-◌, ◌^◌, ◌<◌, ◌≤◌, Bool, true, false, List, [], ◌∷◌, refl, sym, ◌∙◌, ap, subst, arith}
use Rattle.std.specs.Prelude.{Option, Some, None}
use Rattle.std.proofs.lemmas.Bool.{cases_Bool, cases_lt}
use Rattle.std.proofs.lemmas.Bool.Decides.{nat_tests}
use Rattle.ci_pool.specs.declared.cell.Cell.{Cell}
use Rattle.ci_pool.specs.declared.cell.Waiting.{Waiting}
use Rattle.ci_pool.specs.Cells.{comes_before, is_of, cell_at}
use Rattle.ci_pool.specs.Changes.{AllCells, Follows, IsAscending, least, oldest_of, newest_of, oldest_in, newest_in}
use Rattle.ci_pool.specs.inside.Changes.{first_by, may_pay, may_pay_by, waits_up_to, waits_by}
use Rattle.ci_pool.specs.Held.{Held, waiting_of, IsOldestSealed, NoneSealed, NoneOwes, IsFirstOwed, AreUnsealed}
use Rattle.ci_pool.proofs.Lists.{of_same, not_of_before}
use Rattle.ci_pool.proofs.Lookups.{of_found}

-- what holds of all cells holds of one that is found
pub all_found : (P : Cell → Type 0) (set ci : ℕ) (l : List Cell) (c : Cell) → AllCells P l → cell_at set ci l ≡ Some c
    → P c
all_found P set ci [] c a is = absurd (cc)
all_found P set ci (x ∷ l) c a is = elim (cases_Bool (is_of set ci x)) [
  | inl here ↦ let first : Some x ≡ Some c = rw here at is in let same : x ≡ c = cc in subst P same a.0
  | inr other ↦ all_found P set ci l c a.1 (rw other at is)
]

itself : (c : Cell) → is_of c.set c.ci c ≡ true
itself c = grind (arith, nat_tests)

-- a cell of the rest is found in all
later : (x : Cell) (l : List Cell) (c : Cell) → IsAscending (x ∷ l) → cell_at c.set c.ci l ≡ Some c
    → cell_at c.set c.ci (x ∷ l) ≡ Some c
later x l c a is =
    let behind : Follows x c = all_found (Follows x) c.set c.ci l c a.0 is in
    rw (not_of_before x c.set c.ci behind) is

-- none passes
pub none_passes : (test : Cell → Bool) (l : List Cell) → first_by test l ≡ None → (s k : ℕ) (d : Cell)
    → cell_at s k l ≡ Some d → test d ≡ false
none_passes test [] none s k d is = absurd (cc)
none_passes test (x ∷ l) none s k d is = elim (cases_Bool (test x)) [
  | inl t ↦ let bad : Some x ≡ None = rw t at none in absurd (cc)
  | inr f ↦ elim (cases_Bool (is_of s k x)) [
    | inl here ↦ let first : Some x ≡ Some d = rw here at is in let same : x ≡ d = cc in ap test (sym same) ∙ f
    | inr other ↦ none_passes test l (rw f at none) s k d (rw other at is)
  ]
]

-- the first that passes: it does, it is there, and none before it does
pub record IsFirst (test : Cell → Bool) (l : List Cell) (c : Cell) : Type 0 where
  pub passes : test c ≡ true
  pub there : cell_at c.set c.ci l ≡ Some c
  pub others : (s k : ℕ) (d : Cell) → cell_at s k l ≡ Some d → test d ≡ true → comes_before s k c.set c.ci ≡ false

pub first_is : (test : Cell → Bool) (l : List Cell) (c : Cell) → IsAscending l → first_by test l ≡ Some c
    → IsFirst test l c
first_is test [] c a is = absurd (cc)
first_is test (x ∷ l) c a is = elim (cases_Bool (test x)) [
  | inl t ↦
      let first : Some x ≡ Some c = rw t at is in
      let same : x ≡ c = cc in
      subst (IsFirst test (x ∷ l)) same (record {
        passes = t;
        there = rw (itself x) refl;
        others = λ s k d found pass. elim (cases_Bool (is_of s k x)) [
          | inl here ↦ grind (arith, nat_tests)
          | inr other ↦
              let found_later : cell_at s k l ≡ Some d = rw other at found in
              let behind : Follows x d = all_found (Follows x) s k l d a.0 found_later in
              let key = of_same s k d (of_found s k l d found_later) in
              let behind2 : comes_before x.set x.ci s k ≡ true = subst (λ n. comes_before x.set x.ci s n ≡ true) key.1
              (subst (λ n. comes_before x.set x.ci n d.ci ≡ true) key.0 behind) in
              grind (arith, nat_tests)
        ];
      })
  | inr f ↦
      let rest = first_is test l c a.1 (rw f at is) in
      record {
        passes = rest.passes;
        there = later x l c a rest.there;
        others = λ s k d found pass. elim (cases_Bool (is_of s k x)) [
          | inl here ↦
              let first : Some x ≡ Some d = rw here at found in
              let same : x ≡ d = cc in
              let bad : test x ≡ true = ap test same ∙ pass in
              absurd (cc)
          | inr other ↦ rest.others s k d (rw other at found) pass
        ];
      }
]

-- the least number of cells is at most that of each,
pub least_below : (of : Cell → ℕ) (l : List Cell) (s k : ℕ) (d : Cell) → cell_at s k l ≡ Some d → least of l ≤ of d
least_below of [] s k d is = absurd (cc)
least_below of (x ∷ l) s k d is = elim (cases_Bool (is_of s k x)) [
  | inl here ↦ let first : Some x ≡ Some d = rw here at is in let same : x ≡ d = cc in omega (arith, ap of same)
  | inr other ↦ omega (arith, least_below of l s k d (rw other at is))
]

-- and, where it isn't the greatest number, that of some
pub record HasLeast (of : Cell → ℕ) (l : List Cell) : Type 0 where
  pub cell : Cell
  pub there : cell_at cell.set cell.ci l ≡ Some cell
  pub is : of cell ≡ least of l

pub has_least : (of : Cell → ℕ) (l : List Cell) → IsAscending l → least of l < 2 ^ 64 - 1 → HasLeast of l
has_least of [] a lt = absurd (omega arith)
has_least of (x ∷ l) a lt = elim (cases_lt (least of l) (of x)) [
  | inl less ↦
      let rest = has_least of l a.1 (omega (arith, lt, less)) in
      record { cell = rest.cell; there = later x l rest.cell a rest.there; is = omega (arith, rest.is, less) }
  | inr more ↦ record { cell = x; there = rw (itself x) refl; is = omega (arith, more) }
]

-- what tests of cells say of what waits
up_to_is : (newest : ℕ) (o : Option Waiting) → waits_by newest o ≡ true → (w : Waiting) × (o ≡ Some w)
    × (w.newest ≤ newest)
up_to_is newest None is = absurd (cc)
up_to_is newest (Some w) is = (w, refl, grind (arith, nat_tests))

pay_is : (count sealed : ℕ) (o : Option Waiting) → may_pay_by count sealed o ≡ true → (w : Waiting) × (o ≡ Some w)
    × (w.oldest < count) × (w.newest < sealed)
pay_is count sealed None is = absurd (cc)
pay_is count sealed (Some w) is = (w, refl, grind (arith, nat_tests), grind (arith, nat_tests))

below_is : (n : ℕ) (o : Option Waiting) → newest_in o ≤ n → n < 2 ^ 64 - 1 → waits_by n o ≡ true
below_is n None le lt = absurd (omega arith)
below_is n (Some w) le lt = grind (arith, nat_tests)

oldest_is : (o : Option Waiting) → oldest_in o < 2 ^ 64 - 1 → (w : Waiting) × (o ≡ Some w) × (w.oldest ≡ oldest_in o)
oldest_is None lt = absurd (omega arith)
oldest_is (Some w) lt = (w, refl, refl)

-- what waits has a cell
cell_of_waiting : (o : Option Cell) (w : Waiting) → waiting_of o ≡ Some w → (d : Cell) × (o ≡ Some d)
    × (d.waiting ≡ Some w)
cell_of_waiting None w is = absurd (cc)
cell_of_waiting (Some d) w is = (d, refl, is)

module _ (pool : Held) (a : IsAscending pool.cells) where
  -- the oldest sealed one: none,
  pub none_is_sealed : (sealed : ℕ) → sealed ≤ least newest_of pool.cells → NoneSealed pool sealed
  none_is_sealed sealed le s k w is =
      let d = cell_of_waiting (cell_at s k pool.cells) w is in
      omega (arith, le, least_below newest_of pool.cells s k d.0 d.1, ap newest_in d.2)

  -- or the first that waits for the least newest entry
  pub oldest_sealed_is : (sealed : ℕ) (c : Cell) → least newest_of pool.cells < sealed
      → first_by (waits_up_to (least newest_of pool.cells)) pool.cells ≡ Some c → IsOldestSealed pool sealed c.set c.ci
  oldest_sealed_is sealed c lt is =
      let n = least newest_of pool.cells in
      let f = first_is (waits_up_to n) pool.cells c a is in
      let w = up_to_is n c.waiting f.passes in
      record {
        waiting = w.0;
        is = ap waiting_of f.there ∙ w.1;
        is_sealed = omega (arith, lt, w.2);
        is_oldest = λ s k other pending below.
            let d = cell_of_waiting (cell_at s k pool.cells) other pending in
            let least_is : n ≤ newest_of d.0 = least_below newest_of pool.cells s k d.0 d.1 in
            let same : newest_of d.0 ≡ other.newest = ap newest_in d.2 in
            elim (cases_lt w.0.newest other.newest) [
              | inl less ↦ inl less
              | inr le ↦
                  let equal : w.0.newest ≡ other.newest = omega (arith, least_is, same, le, w.2) in
                  let test : waits_up_to n d.0 ≡ true = ap (waits_by n) d.2
                  ∙ (let t : waits_by n (Some other) ≡ true = grind (arith, nat_tests) in t) in
                  inr (equal, f.others s k d.0 d.1 test)
            ];
      }

  -- which is there
  pub one_is_up_to : least newest_of pool.cells < 2 ^ 64 - 1
      → first_by (waits_up_to (least newest_of pool.cells)) pool.cells ≡ None → ⊥
  one_is_up_to lt none =
      let m = has_least newest_of pool.cells a lt in
      let no = none_passes (waits_up_to (least newest_of pool.cells)) pool.cells none m.cell.set m.cell.ci m.cell
      m.there in
      let yes_it_is = below_is (least newest_of pool.cells) m.cell.waiting (omega (arith, m.is)) lt in
      cc

  -- what is owed: nothing,
  pub none_is_owed : (count : ℕ) → count ≤ least oldest_of pool.cells → NoneOwes pool count
  none_is_owed count le s k w is =
      let d = cell_of_waiting (cell_at s k pool.cells) w is in
      omega (arith, le, least_below oldest_of pool.cells s k d.0 d.1, ap oldest_in d.2)

  -- the first that may be written,
  pub first_owed_is : (count sealed : ℕ) (c : Cell) → first_by (may_pay count sealed) pool.cells ≡ Some c
      → IsFirstOwed pool count sealed c.set c.ci
  first_owed_is count sealed c is =
      let f = first_is (may_pay count sealed) pool.cells c a is in
      let w = pay_is count sealed c.waiting f.passes in
      record {
        waiting = w.0;
        is = ap waiting_of f.there ∙ w.1;
        is_below = w.2;
        is_sealed = w.3;
        is_first = λ s k other pending below sealed_is.
            let d = cell_of_waiting (cell_at s k pool.cells) other pending in
            let test : may_pay count sealed d.0 ≡ true = ap (may_pay_by count sealed) d.2
            ∙ (let t : may_pay_by count sealed (Some other) ≡ true = grind (arith, nat_tests) in t) in
            f.others s k d.0 d.1 test;
      }

  -- or none that may
  pub unsealed_is : (count sealed : ℕ) → least oldest_of pool.cells < count → count ≤ 2 ^ 64 - 1
      → first_by (may_pay count sealed) pool.cells ≡ None → AreUnsealed pool count sealed
  unsealed_is count sealed lt most none =
      let m = has_least oldest_of pool.cells a (omega arith) in
      let w = oldest_is m.cell.waiting (omega (arith, m.is)) in
      record {
        set = m.cell.set;
        ci = m.cell.ci;
        owes = record { waiting = w.0; is = ap waiting_of m.there ∙ w.1; is_below = omega (arith, w.2, m.is) };
        unsealed = λ s k other pending below. elim (cases_lt other.newest sealed) [
          | inr ge ↦ ge
          | inl less ↦
              let d = cell_of_waiting (cell_at s k pool.cells) other pending in
              let test : may_pay count sealed d.0 ≡ true = ap (may_pay_by count sealed) d.2
              ∙ (let t : may_pay_by count sealed (Some other) ≡ true = grind (arith, nat_tests) in t) in
              let no = none_passes (may_pay count sealed) pool.cells none s k d.0 d.1 in
              absurd (cc)
        ];
      }
