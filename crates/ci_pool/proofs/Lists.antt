-- Lists of cells in order.
use Rattle.std.proofs.Common.{◌≡◌, inl, inr, ℕ, ◌-◌, ◌^◌, ◌<◌, ◌≤◌, min, Bool, true, false, ◌||◌, ◌&&◌, List, [], ◌∷◌, ◌++◌, refl, sym, ◌∙◌, ap, arith}
use Rattle.std.specs.Prelude.{Option, Some, None, is_some, not, IsTrue}
use Rattle.std.proofs.Math.Bool.{or_assoc}
use Rattle.std.proofs.lemmas.Bool.{cases_Bool, or_parts}
use Rattle.std.proofs.lemmas.Bool.Decides.{nat_tests}
use Rattle.ci_pool.specs.declared.cell.Cell.{Cell}
use Rattle.ci_pool.specs.declared.cell.Waiting.{Waiting}
use Rattle.ci_pool.specs.Cells.{comes_before, is_of, cell_at, renewed_by}
use Rattle.ci_pool.specs.Changes.{is_staged, AllCells, Follows, IsAscending, least, any_staged, oldest_of, newest_of, oldest_in, newest_in}
use Rattle.ci_pool.specs.inside.Changes.{is_only_staged, first_by, may_pay, may_pay_by, waits_by, waits_up_to, without, with_cell, published, unstaged, all_published, all_unstaged}

-- the least number of cells is at most the greatest one,
least_most : (of : Cell → ℕ) (l : List Cell) → least of l ≤ 2 ^ 64 - 1
least_most of [] = omega arith
least_most of (c ∷ l) = omega (arith, least_most of l)

-- that of cells, a cell and more cells
pub least_append : (of : Cell → ℕ) (l : List Cell) (cell : Cell) (r : List Cell)
    → least of (l ++ cell ∷ r) ≡ min (min (least of l) (of cell)) (least of r)
least_append of [] cell r = omega (arith, least_most of r)
least_append of (c ∷ l) cell r = omega (arith, least_append of l cell r)

pub staged_append : (l : List Cell) (cell : Cell) (r : List Cell)
    → any_staged (l ++ cell ∷ r) ≡ ((any_staged l || is_staged cell) || any_staged r)
staged_append [] cell r = refl
staged_append (c ∷ l) cell r = ap (λ t. is_staged c || t) (staged_append l cell r)
    ∙ sym (or_assoc (is_staged c) (any_staged l || is_staged cell) (any_staged r))
    ∙ ap (λ t. t || any_staged r) (sym (or_assoc (is_staged c) (any_staged l) (is_staged cell)))

-- the order
pub before_trans : (s k t m u n : ℕ) → comes_before s k t m ≡ true → comes_before t m u n ≡ true
    → comes_before s k u n ≡ true
before_trans s k t m u n a b = grind (arith, nat_tests)

pub not_of_before : (c : Cell) (set ci : ℕ) → comes_before c.set c.ci set ci ≡ true → is_of set ci c ≡ false
not_of_before c set ci a = grind (arith, nat_tests)

pub not_of_behind : (c : Cell) (set ci : ℕ) → comes_before set ci c.set c.ci ≡ true → is_of set ci c ≡ false
not_of_behind c set ci a = grind (arith, nat_tests)

pub behind_else : (c : Cell) (set ci : ℕ) → is_of set ci c ≡ false → comes_before c.set c.ci set ci ≡ false
    → comes_before set ci c.set c.ci ≡ true
behind_else c set ci a b = grind (arith, nat_tests)

-- what holds of all cells
pub all_map : (P Q : Cell → Type 0) (l : List Cell) → ((c : Cell) → P c → Q c) → AllCells P l → AllCells Q l
all_map P Q [] f a = tt
all_map P Q (c ∷ l) f a = (f c a.0, all_map P Q l f a.1)

pub all_append : (P : Cell → Type 0) (l r : List Cell) → AllCells P l → AllCells P r → AllCells P (l ++ r)
all_append P [] r a b = b
all_append P (c ∷ l) r a b = (a.0, all_append P l r a.1 b)

pub all_front : (P : Cell → Type 0) (l r : List Cell) → AllCells P (l ++ r) → AllCells P l
all_front P [] r a = tt
all_front P (c ∷ l) r a = (a.0, all_front P l r a.1)

pub all_back : (P : Cell → Type 0) (l r : List Cell) → AllCells P (l ++ r) → AllCells P r
all_back P [] r a = a
all_back P (c ∷ l) r a = all_back P l r a.1

-- parts of an ascending list
pub ascending_front : (l r : List Cell) → IsAscending (l ++ r) → IsAscending l
ascending_front [] r a = tt
ascending_front (c ∷ l) r a = (all_front (Follows c) l r a.0, ascending_front l r a.1)

pub ascending_back : (l r : List Cell) → IsAscending (l ++ r) → IsAscending r
ascending_back [] r a = a
ascending_back (c ∷ l) r a = ascending_back l r a.1

-- the cells before a cell of such a list,
pub before_it : (l : List Cell) (c : Cell) (r : List Cell) → IsAscending (l ++ c ∷ r)
    → AllCells (λ b. IsTrue (comes_before b.set b.ci c.set c.ci)) l
before_it [] c r a = tt
before_it (b ∷ l) c r a = ((all_back (Follows b) l (c ∷ r) a.0).0, before_it l c r a.1)

-- and those behind it
pub behind_it : (l : List Cell) (c : Cell) (r : List Cell) → IsAscending (l ++ c ∷ r) → AllCells (Follows c) r
behind_it l c r a = (ascending_back l (c ∷ r) a).0

-- lists with all of one before all of the other, joined
pub ascending_join : (l : List Cell) (c : Cell) (r : List Cell) → IsAscending l
    → AllCells (λ b. IsTrue (comes_before b.set b.ci c.set c.ci)) l → AllCells (Follows c) r → IsAscending r
    → IsAscending (l ++ c ∷ r)
ascending_join [] c r a b d e = (d, e)
ascending_join (x ∷ l) c r a b d e = (
  all_append (Follows x) l (c ∷ r) a.0
      (b.0, all_map (Follows c) (Follows x) r (λ y f. before_trans x.set x.ci c.set c.ci y.set y.ci b.0 f) d),
  ascending_join l c r a.1 b.1 d e,
)

-- nothing of an interval among cells before it,
pub none_before : (set ci : ℕ) (l : List Cell) → AllCells (λ b. IsTrue (comes_before b.set b.ci set ci)) l
    → cell_at set ci l ≡ None
none_before set ci [] a = refl
none_before set ci (c ∷ l) a = rw (not_of_before c set ci a.0) (none_before set ci l a.1)

-- nor among those behind it
pub none_behind : (set ci : ℕ) (l : List Cell) → AllCells (λ b. IsTrue (comes_before set ci b.set b.ci)) l
    → cell_at set ci l ≡ None
none_behind set ci [] a = refl
none_behind set ci (c ∷ l) a = rw (not_of_behind c set ci a.0) (none_behind set ci l a.1)

-- what two lists have of an interval
pub at_right : (set ci : ℕ) (l r : List Cell) → cell_at set ci l ≡ None → cell_at set ci (l ++ r) ≡ cell_at set ci r
at_right set ci [] r none = refl
at_right set ci (c ∷ l) r none = elim (cases_Bool (is_of set ci c)) [
  | inl is ↦ let bad : Some c ≡ None = rw is at none in cc
  | inr other ↦ rw other (at_right set ci l r (rw other at none))
]

pub at_left : (set ci : ℕ) (l r : List Cell) → cell_at set ci r ≡ None → cell_at set ci (l ++ r) ≡ cell_at set ci l
at_left set ci [] r none = none
at_left set ci (c ∷ l) r none = elim (cases_Bool (is_of set ci c)) [
  | inl is ↦ rw is refl
  | inr other ↦ rw other (at_left set ci l r none)
]

-- where neither has anything
pub none_right : (set ci : ℕ) (l r : List Cell) → cell_at set ci (l ++ r) ≡ None → cell_at set ci r ≡ None
none_right set ci [] r none = none
none_right set ci (c ∷ l) r none = elim (cases_Bool (is_of set ci c)) [
  | inl is ↦ let bad : Some c ≡ None = rw is at none in cc
  | inr other ↦ none_right set ci l r (rw other at none)
]

pub none_left : (set ci : ℕ) (l r : List Cell) → cell_at set ci (l ++ r) ≡ None → cell_at set ci l ≡ None
none_left set ci [] r none = refl
none_left set ci (c ∷ l) r none = elim (cases_Bool (is_of set ci c)) [
  | inl is ↦ let bad : Some c ≡ None = rw is at none in cc
  | inr other ↦ rw other (none_left set ci l r (rw other at none))
]

pub none_this : (set ci : ℕ) (c : Cell) (r : List Cell) → cell_at set ci (c ∷ r) ≡ None → is_of set ci c ≡ false
none_this set ci c r none = elim (cases_Bool (is_of set ci c)) [
  | inl is ↦ let bad : Some c ≡ None = rw is at none in cc
  | inr other ↦ other
]

-- a search by order
pub of_same : (set ci : ℕ) (c : Cell) → is_of set ci c ≡ true → (c.set ≡ set) × (c.ci ≡ ci)
of_same set ci c is = (grind (arith, nat_tests), grind (arith, nat_tests))

pub found_here : (set ci : ℕ) (l : List Cell) (c : Cell) (r : List Cell) → IsAscending (l ++ c ∷ r)
    → is_of set ci c ≡ true → cell_at set ci (l ++ c ∷ r) ≡ Some c
found_here set ci l c r a is =
    let same = of_same set ci c is in
    let before : AllCells (λ b. IsTrue (comes_before b.set b.ci set ci)) l =
    all_map _ (λ b. IsTrue (comes_before b.set b.ci set ci)) l (λ b f. cc) (before_it l c r a) in
    at_right set ci l (c ∷ r) (none_before set ci l before) ∙ rw is refl

pub found_behind : (set ci : ℕ) (l : List Cell) (c : Cell) (r : List Cell) → IsAscending (l ++ c ∷ r)
    → comes_before c.set c.ci set ci ≡ true → cell_at set ci (l ++ c ∷ r) ≡ cell_at set ci r
found_behind set ci l c r a is =
    let before : AllCells (λ b. IsTrue (comes_before b.set b.ci set ci)) l =
    all_map (λ b. IsTrue (comes_before b.set b.ci c.set c.ci)) (λ b. IsTrue (comes_before b.set b.ci set ci)) l
    (λ b f. before_trans b.set b.ci c.set c.ci set ci f is) (before_it l c r a) in
    at_right set ci l (c ∷ r) (none_before set ci l before) ∙ rw (not_of_before c set ci is) refl

pub found_before : (set ci : ℕ) (l : List Cell) (c : Cell) (r : List Cell) → IsAscending (l ++ c ∷ r)
    → comes_before set ci c.set c.ci ≡ true → cell_at set ci (l ++ c ∷ r) ≡ cell_at set ci l
found_before set ci l c r a is =
    let behind : AllCells (λ b. IsTrue (comes_before set ci b.set b.ci)) r = all_map (Follows c)
    (λ b. IsTrue (comes_before set ci b.set b.ci)) r (λ b f. before_trans set ci c.set c.ci b.set b.ci is f)
    (behind_it l c r a) in
    at_left set ci l (c ∷ r) (rw (not_of_behind c set ci is) (none_behind set ci r behind))

-- a search by what waits
pub first_left : (test : Cell → Bool) (l r : List Cell) (c : Cell) → first_by test l ≡ Some c
    → first_by test (l ++ r) ≡ Some c
first_left test [] r c is = absurd (cc)
first_left test (x ∷ l) r c is = elim (cases_Bool (test x)) [
  | inl t ↦ rw t (rw t at is)
  | inr f ↦ rw f (first_left test l r c (rw f at is))
]

pub first_right : (test : Cell → Bool) (l r : List Cell) → first_by test l ≡ None
    → first_by test (l ++ r) ≡ first_by test r
first_right test [] r none = refl
first_right test (x ∷ l) r none = elim (cases_Bool (test x)) [
  | inl t ↦ let bad : Some x ≡ None = rw t at none in cc
  | inr f ↦ rw f (first_right test l r (rw f at none))
]

-- none is to pay where the least numbers are too great,
pay_tells : (count sealed : ℕ) (c : Cell) → may_pay count sealed c ≡ true → (oldest_of c < count)
    × (newest_of c < sealed)
pay_tells count sealed c is = tells c.waiting is
  where
    tells : (w : Option Waiting) → may_pay_by count sealed w ≡ true → (oldest_in w < count) × (newest_in w < sealed)
    tells None h = cc
    tells (Some w) h = (grind (arith, nat_tests), grind (arith, nat_tests))

pub none_to_pay : (count sealed : ℕ) (l : List Cell) → count ≤ least oldest_of l
    → first_by (may_pay count sealed) l ≡ None
none_to_pay count sealed [] le = refl
none_to_pay count sealed (c ∷ l) le = elim (cases_Bool (may_pay count sealed c)) [
  | inl is ↦ absurd (omega (arith, le, (pay_tells count sealed c is).0))
  | inr other ↦ rw other (none_to_pay count sealed l (omega arith))
]

pub none_sealed : (count sealed : ℕ) (l : List Cell) → sealed ≤ least newest_of l
    → first_by (may_pay count sealed) l ≡ None
none_sealed count sealed [] le = refl
none_sealed count sealed (c ∷ l) le = elim (cases_Bool (may_pay count sealed c)) [
  | inl is ↦ absurd (omega (arith, le, (pay_tells count sealed c is).1))
  | inr other ↦ rw other (none_sealed count sealed l (omega arith))
]

-- and none waits up to an entry before the least
up_to_tells : (newest : ℕ) (c : Cell) → waits_up_to newest c ≡ true → newest_of c ≤ newest
up_to_tells newest c is = tells c.waiting is
  where
    tells : (w : Option Waiting) → waits_by newest w ≡ true → newest_in w ≤ newest
    tells None h = cc
    tells (Some w) h = grind (arith, nat_tests)

pub none_newest : (newest : ℕ) (l : List Cell) → newest < least newest_of l → first_by (waits_up_to newest) l ≡ None
none_newest newest [] lt = refl
none_newest newest (c ∷ l) lt = elim (cases_Bool (waits_up_to newest c)) [
  | inl is ↦ absurd (omega (arith, lt, up_to_tells newest c is))
  | inr other ↦ rw other (none_newest newest l (omega arith))
]

-- what is found among the first cells is found among all
pub first_found : (test : Cell → Bool) (l r : List Cell) (o : Option Cell) → o ≡ first_by test l → (o ≡ None → ⊥)
    → o ≡ first_by test (l ++ r)
first_found test l r None is some = absurd (some refl)
first_found test l r (Some c) is some = sym (first_left test l r c (sym is))

-- a list without the cell of an interval
pub without_right : (set ci : ℕ) (l m : List Cell) → cell_at set ci l ≡ None → without set ci (l ++ m) ≡ l
    ++ without set ci m
without_right set ci [] m none = refl
without_right set ci (c ∷ l) m none =
    let other = none_this set ci c l none in
    rw other (ap (λ r. c ∷ r) (without_right set ci l m (rw other at none)))

pub without_none : (set ci : ℕ) (m : List Cell) → cell_at set ci m ≡ None → without set ci m ≡ m
without_none set ci [] none = refl
without_none set ci (c ∷ m) none =
    let other = none_this set ci c m none in
    rw other (ap (λ r. c ∷ r) (without_none set ci m (rw other at none)))

pub without_left : (set ci : ℕ) (l m : List Cell) → cell_at set ci m ≡ None → without set ci (l ++ m) ≡ without set ci l
    ++ m
without_left set ci [] m none = without_none set ci m none
without_left set ci (c ∷ l) m none = elim (cases_Bool (is_of set ci c)) [
  | inl is ↦ rw is refl
  | inr other ↦ rw other (ap (λ r. c ∷ r) (without_left set ci l m none))
]

all_without : (P : Cell → Type 0) (set ci : ℕ) (l : List Cell) → AllCells P l → AllCells P (without set ci l)
all_without P set ci [] a = tt
all_without P set ci (c ∷ l) a = elim (cases_Bool (is_of set ci c)) [
  | inl is ↦ rw is (a.1)
  | inr other ↦ rw other (a.0, all_without P set ci l a.1)
]

pub ascending_without : (set ci : ℕ) (l : List Cell) → IsAscending l → IsAscending (without set ci l)
ascending_without set ci [] a = tt
ascending_without set ci (c ∷ l) a = elim (cases_Bool (is_of set ci c)) [
  | inl is ↦ rw is (a.1)
  | inr other ↦ rw other (all_without (Follows c) set ci l a.0, ascending_without set ci l a.1)
]

-- the cell of a node at hand is taken out,
pub without_here : (set ci : ℕ) (l : List Cell) (c : Cell) (r : List Cell) → IsAscending (l ++ c ∷ r)
    → is_of set ci c ≡ true → without set ci (l ++ c ∷ r) ≡ l ++ r
without_here set ci l c r a is =
    let same = of_same set ci c is in
    let before : AllCells (λ b. IsTrue (comes_before b.set b.ci set ci)) l =
    all_map _ (λ b. IsTrue (comes_before b.set b.ci set ci)) l (λ b f. cc) (before_it l c r a) in
    without_right set ci l (c ∷ r) (none_before set ci l before) ∙ rw is refl

-- or one behind it,
pub without_behind : (set ci : ℕ) (l : List Cell) (c : Cell) (r : List Cell) → IsAscending (l ++ c ∷ r)
    → comes_before c.set c.ci set ci ≡ true → without set ci (l ++ c ∷ r) ≡ l ++ c ∷ without set ci r
without_behind set ci l c r a is =
    let before : AllCells (λ b. IsTrue (comes_before b.set b.ci set ci)) l =
    all_map (λ b. IsTrue (comes_before b.set b.ci c.set c.ci)) (λ b. IsTrue (comes_before b.set b.ci set ci)) l
    (λ b f. before_trans b.set b.ci c.set c.ci set ci f is) (before_it l c r a) in
    without_right set ci l (c ∷ r) (none_before set ci l before) ∙ rw (not_of_before c set ci is) refl

-- or one before it
pub without_before : (set ci : ℕ) (l : List Cell) (c : Cell) (r : List Cell) → IsAscending (l ++ c ∷ r)
    → comes_before set ci c.set c.ci ≡ true → without set ci (l ++ c ∷ r) ≡ without set ci l ++ c ∷ r
without_before set ci l c r a is =
    let behind : AllCells (λ b. IsTrue (comes_before set ci b.set b.ci)) r = all_map (Follows c)
    (λ b. IsTrue (comes_before set ci b.set b.ci)) r (λ b f. before_trans set ci c.set c.ci b.set b.ci is f)
    (behind_it l c r a) in
    without_left set ci l (c ∷ r) (rw (not_of_behind c set ci is) (none_behind set ci r behind))

-- a list with one cell more, whose place is known,
pub with_between : (new : Cell) (l r : List Cell) → AllCells (λ b. IsTrue (comes_before b.set b.ci new.set new.ci)) l
    → AllCells (λ b. IsTrue (comes_before new.set new.ci b.set b.ci)) r → with_cell new (l ++ r) ≡ l ++ new ∷ r
with_between new [] [] a b = refl
with_between new [] (c ∷ r) a b =
    let not : comes_before c.set c.ci new.set new.ci ≡ false = grind (arith, nat_tests) in
    rw not refl
with_between new (c ∷ l) r a b = rw (a.0) (ap (λ m. c ∷ m) (with_between new l r a.1 b))

-- or lies behind a node's cell,
pub with_behind : (new : Cell) (l : List Cell) (c : Cell) (r : List Cell) → IsAscending (l ++ c ∷ r)
    → comes_before c.set c.ci new.set new.ci ≡ true → with_cell new (l ++ c ∷ r) ≡ l ++ c ∷ with_cell new r
with_behind new [] c r a is = rw is refl
with_behind new (x ∷ l) c r a is =
    let first : comes_before x.set x.ci new.set new.ci ≡ true = before_trans x.set x.ci c.set c.ci new.set new.ci
    (all_back (Follows x) l (c ∷ r) a.0).0 is in
    rw first (ap (λ m. x ∷ m) (with_behind new l c r a.1 is))

-- or before it
pub with_before : (new : Cell) (l : List Cell) (c : Cell) (r : List Cell)
    → comes_before c.set c.ci new.set new.ci ≡ false → with_cell new (l ++ c ∷ r) ≡ with_cell new l ++ c ∷ r
with_before new [] c r not = rw not refl
with_before new (x ∷ l) c r not = elim (cases_Bool (comes_before x.set x.ci new.set new.ci)) [
  | inl is ↦ rw is (ap (λ m. x ∷ m) (with_before new l c r not))
  | inr other ↦ rw other refl
]

all_with : (P : Cell → Type 0) (new : Cell) (l : List Cell) → P new → AllCells P l → AllCells P (with_cell new l)
all_with P new [] p a = (p, tt)
all_with P new (c ∷ l) p a = elim (cases_Bool (comes_before c.set c.ci new.set new.ci)) [
  | inl is ↦ rw is (a.0, all_with P new l p a.1)
  | inr other ↦ rw other (p, a)
]

pub ascending_with : (new : Cell) (l : List Cell) → IsAscending l → cell_at new.set new.ci l ≡ None
    → IsAscending (with_cell new l)
ascending_with new [] a none = (tt, tt)
ascending_with new (c ∷ l) a none =
    let not = none_this new.set new.ci c l none in
    elim (cases_Bool (comes_before c.set c.ci new.set new.ci)) [
      | inl is ↦ rw is (all_with (Follows c) new l is a.0, ascending_with new l a.1 (rw not at none))
      | inr other ↦
          let first = behind_else c new.set new.ci not other in
          rw other (
            (
              first,
              all_map (Follows c) (Follows new) l
                  (λ y f. before_trans new.set new.ci c.set c.ci y.set y.ci first f) a.0,
            ),
            a,
          )
    ]

-- what is published, in parts,
pub published_append : (place : ℕ) (l : List Cell) (c : Cell) (r : List Cell)
    → all_published place (l ++ c ∷ r) ≡ all_published place l ++ published place c ∷ all_published place r
published_append place [] c r = refl
published_append place (x ∷ l) c r = ap (λ m. published place x ∷ m) (published_append place l c r)

-- in its order,
all_of_published : (place s k : ℕ) (l : List Cell) → AllCells (λ b. IsTrue (comes_before s k b.set b.ci)) l
    → AllCells (λ b. IsTrue (comes_before s k b.set b.ci)) (all_published place l)
all_of_published place s k [] a = tt
all_of_published place s k (x ∷ l) a = (a.0, all_of_published place s k l a.1)

pub ascending_published : (place : ℕ) (l : List Cell) → IsAscending l → IsAscending (all_published place l)
ascending_published place [] a = tt
ascending_published place (c ∷ l) a = (all_of_published place c.set c.ci l a.0, ascending_published place l a.1)

-- and nothing where nothing is staged
pub not_staged : (o : Option (List ℕ)) → is_some o ≡ false → o ≡ None
not_staged None h = refl
not_staged (Some bytes) h = cc

pub published_none : (place : ℕ) (l : List Cell) → any_staged l ≡ false → all_published place l ≡ l
published_none place [] none = refl
published_none place (c ∷ l) none =
    let parts = or_parts (is_staged c) (any_staged l) none in
    let e = not_staged c.staged parts.0 in
    let same : published place c ≡ c =
    ap (λ (o : Option (List ℕ)). record
    { set = c.set; ci = c.ci; waiting = renewed_by place o c.waiting; staged = None }) e
    ∙ ap (λ (o : Option (List ℕ)). record { set = c.set; ci = c.ci; waiting = c.waiting; staged = o }) (sym e) in
    ap (λ k. k ∷ all_published place l) same ∙ ap (λ m. c ∷ m) (published_none place l parts.1)

-- what is left without what is staged, in parts,
pub unstaged_append : (l : List Cell) (m : List Cell) → all_unstaged (l ++ m) ≡ all_unstaged l ++ all_unstaged m
unstaged_append [] m = refl
unstaged_append (x ∷ l) m = elim (cases_Bool (is_only_staged x)) [
  | inl is ↦ rw is (unstaged_append l m)
  | inr other ↦ rw other (ap (λ m. unstaged x ∷ m) (unstaged_append l m))
]

pub all_of_unstaged : (s k : ℕ) (l : List Cell) → AllCells (λ b. IsTrue (comes_before s k b.set b.ci)) l
    → AllCells (λ b. IsTrue (comes_before s k b.set b.ci)) (all_unstaged l)
all_of_unstaged s k [] a = tt
all_of_unstaged s k (x ∷ l) a = elim (cases_Bool (is_only_staged x)) [
  | inl is ↦ rw is (all_of_unstaged s k l a.1)
  | inr other ↦ rw other (a.0, all_of_unstaged s k l a.1)
]

pub ascending_unstaged : (l : List Cell) → IsAscending l → IsAscending (all_unstaged l)
ascending_unstaged [] a = tt
ascending_unstaged (c ∷ l) a = elim (cases_Bool (is_only_staged c)) [
  | inl is ↦ rw is (ascending_unstaged l a.1)
  | inr other ↦ rw other (all_of_unstaged c.set c.ci l a.0, ascending_unstaged l a.1)
]

pub unstaged_none : (l : List Cell) → any_staged l ≡ false → all_unstaged l ≡ l
unstaged_none [] none = refl
unstaged_none (c ∷ l) none =
    let parts = or_parts (is_staged c) (any_staged l) none in
    let e = not_staged c.staged parts.0 in
    let only : is_only_staged c ≡ false = ap (λ t. t && not (is_some c.waiting)) parts.0 in
    let same : unstaged c ≡ c =
    ap (λ (o : Option (List ℕ)). record { set = c.set; ci = c.ci; waiting = c.waiting; staged = o }) (sym e) in
    rw only (ap (λ k. k ∷ all_unstaged l) same ∙ ap (λ m. c ∷ m) (unstaged_none l parts.1))
