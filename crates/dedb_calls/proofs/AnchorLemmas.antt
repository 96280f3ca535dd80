-- Held anchors in their order: where one stands, and what that says of look-ups, of one more and of edits.
use Rattle.std.proofs.Common.{◌≡◌, ℕ, zero, suc, ◌+◌, ◌<◌, ◌≤◌, List, [], ◌∷◌, ◌++◌, length, Some, None, refl, sym, ◌∙◌, ap, subst, Bool, true, false, ◌&&◌, ◌||◌, ◌==◌, slice_get, slice_set, slice_index_or, Option, arith}
use Rattle.std.proofs.lemmas.Bool.Decides.{nat_tests}
use Rattle.std.specs.Prelude.{nat_lt, if◌then◌else◌, Result, Ok, Err}
use Rattle.std.specs.Result.{OnErr}
use Rattle.std.specs.List.{AllByRecursion, insert}
use Rattle.std.specs.List.Sorted.{IsPartitionedBy}
use Rattle.fp_model.specs.declared.calls.AnchorChange.{AnchorChange}
use Rattle.fp_model.specs.declared.database.Root.{Root}
use Rattle.fp_model.specs.Workspace.{change_precedes, put_change}
use Rattle.dedb_calls.specs.Anchors.{Ascend, change_of, changes_in, held_at, is_anchor_of, stands_before}
use Rattle.dedb_calls.specs.inside.Anchors.{IsEdited, IsPlaceOf}
use Rattle.dedb_calls.specs.declared.anchors.HeldAnchor.{HeldAnchor}
use Rattle.plain_laws.proofs.Numbers.{both_numbers, both_same}

pub not_both : true ≡ false → ⊥
not_both e = cc

-- ---- the order

abbrev before : ℕ → ℕ → ℕ → ℕ → Bool
before a b c d = nat_lt a c || a == c && nat_lt b d

before_trans : (a b c d e f : ℕ) → before a b c d ≡ true → before c d e f ≡ true → before a b e f ≡ true
before_trans a b c d e f p q = grind (arith, nat_tests)

not_before_itself : (a b : ℕ) → before a b a b ≡ false
not_before_itself a b = grind (arith, nat_tests)

-- what stands before another isn't it
before_differs : (a b c d : ℕ) → before a b c d ≡ true → (a == c && b == d) ≡ false
before_differs a b c d p = grind (arith, nat_tests)

pub after_differs : (a b c d : ℕ) → before a b c d ≡ true → (c == a && d == b) ≡ false
after_differs a b c d p = grind (arith, nat_tests)

not_before_back : (a b c d : ℕ) → before a b c d ≡ true → before c d a b ≡ false
not_before_back a b c d p = grind (arith, nat_tests)

-- two of which neither stands before the other
same_or_after : (a b c d : ℕ) → before a b c d ≡ false → (a == c && b == d) ≡ false → before c d a b ≡ true
same_or_after a b c d p q = grind (arith, nat_tests)

pub turned : (a b c d : ℕ) → (a == c && b == d) ≡ false → (c == a && d == b) ≡ false
turned a b c d p = grind (arith, nat_tests)

-- ---- places

all_at : (P : HeldAnchor → Type 0) (xs : List HeldAnchor) (i : ℕ) (d : HeldAnchor) → AllByRecursion P xs
    → i < length xs → P (slice_index_or xs i d)
all_at P [] i d all within = absurd (omega (arith, within))
all_at P (x ∷ xs) zero d all within = all.0
all_at P (x ∷ xs) (suc i) d all within = all_at P xs i d all.1 (omega (arith, within))

-- it, if it is of this anchor
abbrev if_it : ℕ → ℕ → Option HeldAnchor → Option HeldAnchor
if_it dedb anchor None = None
if_it dedb anchor (Some a) = if is_anchor_of dedb anchor a then Some a else None

abbrev pub IsAfter : HeldAnchor → HeldAnchor → Type 0
IsAfter a b = stands_before b.dedb b.anchor a ≡ true

module _ (dedb anchor : ℕ) where
  pub partitioned : (xs : List HeldAnchor) → Ascend xs → IsPartitionedBy (stands_before dedb anchor) xs
  partitioned [] up i j d le within less = absurd (omega (arith, within))
  partitioned (x ∷ xs) up zero zero d le within less = less
  partitioned (x ∷ xs) up zero (suc j) d le within less =
      let b : HeldAnchor = slice_index_or xs j d in
      before_trans x.dedb x.anchor b.dedb b.anchor dedb anchor (all_at (IsAfter x) xs j d up.0 (omega (arith, within)))
      less
  partitioned (x ∷ xs) up (suc i) zero d le within less = absurd (omega (arith, le))
  partitioned (x ∷ xs) up (suc i) (suc j) d le within less =
      partitioned xs up.1 i j d (omega (arith, le)) (omega (arith, within)) less

  place_behind : (x : HeldAnchor) (xs : List HeldAnchor) (n : ℕ) → IsPlaceOf dedb anchor (x ∷ xs) (suc n)
      → IsPlaceOf dedb anchor xs n
  place_behind x xs n p = (
    λ i d low high. p.0 (suc i) d (omega (arith)) (omega (arith, high)),
    λ i d low high. p.1 (suc i) d (omega (arith, low)) (omega (arith, high)),
  )

  -- behind one that doesn't stand before the anchor it isn't found
  none_behind : (x : HeldAnchor) (xs : List HeldAnchor) → stands_before dedb anchor x ≡ false
      → AllByRecursion (IsAfter x) xs → held_at xs dedb anchor ≡ None
  none_behind x [] not_before all = refl
  none_behind x (y ∷ ys) not_before all = by (is_anchor_of dedb anchor y) refl (none_behind x ys not_before all.1)
    where
      by : (b : Bool) → is_anchor_of dedb anchor y ≡ b → held_at ys dedb anchor ≡ None
          → held_at (y ∷ ys) dedb anchor ≡ None
      by true e later =
          let same = both_numbers y.dedb y.anchor dedb anchor e in
          absurd (not_both (sym all.0 ∙ ap (λ k. before x.dedb x.anchor k y.anchor) same.0
          ∙ ap (λ k. before x.dedb x.anchor dedb k) same.1 ∙ not_before))
      by false e later = rw e later

  -- a look-up finds what stands at the place
  found_at : (xs : List HeldAnchor) (n : ℕ) → Ascend xs → IsPlaceOf dedb anchor xs n
      → held_at xs dedb anchor ≡ if_it dedb anchor (slice_get xs n)
  found_at [] n up p = refl
  found_at (x ∷ xs) zero up p = by (is_anchor_of dedb anchor x) refl
    where
      by : (b : Bool) → is_anchor_of dedb anchor x ≡ b → held_at (x ∷ xs) dedb anchor ≡ if_it dedb anchor (Some x)
      by true e = rw e refl
      by false e = rw e (none_behind x xs (p.1 0 x (omega (arith)) (omega (arith))) up.0)
  found_at (x ∷ xs) (suc n) up p =
      rw (before_differs x.dedb x.anchor dedb anchor (p.0 0 x (omega (arith)) (omega (arith))))
      (found_at xs n up.1 (place_behind x xs n p))

  pub stands : (xs : List HeldAnchor) (n : ℕ) (a : HeldAnchor) → Ascend xs → IsPlaceOf dedb anchor xs n
      → slice_get xs n ≡ Some a → is_anchor_of dedb anchor a ≡ true → held_at xs dedb anchor ≡ Some a
  stands xs n a up p at is = found_at xs n up p ∙ ap (if_it dedb anchor) at ∙ ap (λ b. if b then Some a else None) is

  pub lacks : (xs : List HeldAnchor) (n : ℕ) → Ascend xs → IsPlaceOf dedb anchor xs n
      → ((a : HeldAnchor) → slice_get xs n ≡ Some a → is_anchor_of dedb anchor a ≡ false)
      → held_at xs dedb anchor ≡ None
  lacks xs n up p other = found_at xs n up p ∙ by (slice_get xs n) refl
    where
      by : (o : Option HeldAnchor) → slice_get xs n ≡ o → if_it dedb anchor o ≡ None
      by None e = refl
      by (Some a) e = ap (λ b. if b then Some a else None) (other a e)

-- ---- one more

all_more : (P : HeldAnchor → Type 0) (x : HeldAnchor) (xs : List HeldAnchor) (n : ℕ) → P x → AllByRecursion P xs
    → n ≤ length xs → AllByRecursion P (insert xs n x)
all_more P x [] zero one all within = (one, tt)
all_more P x [] (suc n) one all within = absurd (omega (arith, within))
all_more P x (y ∷ ys) zero one all within = (one, all)
all_more P x (y ∷ ys) (suc n) one all within = (all.0, all_more P x ys n one all.1 (omega (arith, within)))

all_after : (x y : HeldAnchor) (ys : List HeldAnchor) → IsAfter x y → AllByRecursion (IsAfter y) ys
    → AllByRecursion (IsAfter x) ys
all_after x y [] less all = tt
all_after x y (z ∷ zs) less all =
    (before_trans x.dedb x.anchor y.dedb y.anchor z.dedb z.anchor less all.0, all_after x y zs less all.1)

module _ (x : HeldAnchor) where
  pub more_ascend : (xs : List HeldAnchor) (n : ℕ) → Ascend xs → IsPlaceOf x.dedb x.anchor xs n
      → ((a : HeldAnchor) → slice_get xs n ≡ Some a → is_anchor_of x.dedb x.anchor a ≡ false)
      → n ≤ length xs → Ascend (insert xs n x)
  more_ascend [] zero up p other within = (tt, tt)
  more_ascend [] (suc n) up p other within = absurd (omega (arith, within))
  more_ascend (y ∷ ys) zero up p other within =
      let less : IsAfter x y = same_or_after y.dedb y.anchor x.dedb x.anchor
      (p.1 0 y (omega (arith)) (omega (arith))) (other y refl) in
      ((less, all_after x y ys less up.0), up)
  more_ascend (y ∷ ys) (suc n) up p other within = (
    all_more (IsAfter y) x ys n (p.0 0 y (omega (arith)) (omega (arith))) up.0 (omega (arith, within)),
    more_ascend ys n up.1 (place_behind x.dedb x.anchor y ys n p) other (omega (arith, within)),
  )

  pub more_found : (xs : List HeldAnchor) (n : ℕ) → IsPlaceOf x.dedb x.anchor xs n → n ≤ length xs
      → held_at (insert xs n x) x.dedb x.anchor ≡ Some x
  more_found [] zero p within = rw (both_same x.dedb x.anchor) refl
  more_found [] (suc n) p within = absurd (omega (arith, within))
  more_found (y ∷ ys) zero p within = rw (both_same x.dedb x.anchor) refl
  more_found (y ∷ ys) (suc n) p within =
      rw (before_differs y.dedb y.anchor x.dedb x.anchor (p.0 0 y (omega (arith)) (omega (arith))))
      (more_found ys n (place_behind x.dedb x.anchor y ys n p) (omega (arith, within)))

  pub more_others : (xs : List HeldAnchor) (n d a : ℕ) → is_anchor_of d a x ≡ false → n ≤ length xs
      → held_at (insert xs n x) d a ≡ held_at xs d a
  more_others [] zero d a e within = rw e refl
  more_others [] (suc n) d a e within = absurd (omega (arith, within))
  more_others (y ∷ ys) zero d a e within = rw e refl
  more_others (y ∷ ys) (suc n) d a e within =
      ap (λ rest. if is_anchor_of d a y then Some y else rest) (more_others ys n d a e (omega (arith, within)))

  pub more_changes : (xs : List HeldAnchor) (n : ℕ) → x.is_changed ≡ false → n ≤ length xs
      → changes_in (insert xs n x) ≡ changes_in xs
  more_changes [] zero e within = rw e refl
  more_changes [] (suc n) e within = absurd (omega (arith, within))
  more_changes (y ∷ ys) zero e within = rw e refl
  more_changes (y ∷ ys) (suc n) e within =
      ap (λ rest. if y.is_changed then change_of y ∷ rest else rest) (more_changes ys n e (omega (arith, within)))

-- ---- edits

put_front : (c : AnchorChange) (xs : List HeldAnchor)
    → AllByRecursion (λ b. change_precedes c (change_of b) ≡ true) xs → put_change c (changes_in xs) ≡ c ∷ changes_in xs
put_front c [] all = refl
put_front c (b ∷ bs) all = by b.is_changed (put_front c bs all.1)
  where
    by : (t : Bool) → put_change c (changes_in bs) ≡ c ∷ changes_in bs
        → put_change c (if t then change_of b ∷ changes_in bs else changes_in bs)
        ≡ c ∷ (if t then change_of b ∷ changes_in bs else changes_in bs)
    by true later = rw all.0 refl
    by false later = later

all_set : (P : HeldAnchor → Type 0) (xs : List HeldAnchor) (n : ℕ) (y : HeldAnchor) → P y → AllByRecursion P xs
    → AllByRecursion P (slice_set xs n y)
all_set P [] n y one all = tt
all_set P (x ∷ xs) zero y one all = (one, all.1)
all_set P (x ∷ xs) (suc n) y one all = (all.0, all_set P xs n y one all.1)

has_at : (P : HeldAnchor → Type 0) (xs : List HeldAnchor) (n : ℕ) (x : HeldAnchor) → AllByRecursion P xs
    → slice_get xs n ≡ Some x → P x
has_at P [] n x all at = absurd (cc)
has_at P (y ∷ ys) zero x all at = let same : y ≡ x = cc in subst P same all.0
has_at P (y ∷ ys) (suc n) x all at = has_at P ys n x all.1 at

module _ (x : HeldAnchor) (roots : List Root) where
  -- it with other roots
  abbrev changed : HeldAnchor
  changed = record x { roots = roots; is_changed = true }

  pub set_ascend : (xs : List HeldAnchor) (n : ℕ) → Ascend xs → slice_get xs n ≡ Some x
      → Ascend (slice_set xs n changed)
  set_ascend [] n up at = tt
  set_ascend (y ∷ ys) zero up at =
      let same : y ≡ x = cc in
      (subst (λ (z : HeldAnchor). AllByRecursion (IsAfter z) ys) same up.0, up.1)
  set_ascend (y ∷ ys) (suc n) up at =
      (all_set (IsAfter y) ys n changed (has_at (IsAfter y) ys n x up.0 at) up.0, set_ascend ys n up.1 at)

  pub set_found : (xs : List HeldAnchor) (n : ℕ) → Ascend xs → slice_get xs n ≡ Some x
      → held_at (slice_set xs n changed) x.dedb x.anchor ≡ Some changed
  set_found [] n up at = absurd (cc)
  set_found (y ∷ ys) zero up at = rw (both_same x.dedb x.anchor) refl
  set_found (y ∷ ys) (suc n) up at =
      rw (before_differs y.dedb y.anchor x.dedb x.anchor (has_at (IsAfter y) ys n x up.0 at))
      (set_found ys n up.1 at)

  pub set_others : (xs : List HeldAnchor) (n d a : ℕ) → slice_get xs n ≡ Some x → is_anchor_of d a x ≡ false
      → held_at (slice_set xs n changed) d a ≡ held_at xs d a
  set_others [] n d a at e = refl
  set_others (y ∷ ys) zero d a at e =
      let same : y ≡ x = cc in
      let other : is_anchor_of d a y ≡ false = ap (is_anchor_of d a) same ∙ e in
      rw e (rw other refl)
  set_others (y ∷ ys) (suc n) d a at e =
      ap (λ rest. if is_anchor_of d a y then Some y else rest) (set_others ys n d a at e)

  pub set_changes : (xs : List HeldAnchor) (n : ℕ) → Ascend xs → slice_get xs n ≡ Some x
      → changes_in (slice_set xs n changed) ≡ put_change (change_of changed) (changes_in xs)
  set_changes [] n up at = absurd (cc)
  set_changes (y ∷ ys) zero up at =
      by y.is_changed
    where
      same : y ≡ x
      same = cc

      after : AllByRecursion (IsAfter x) ys
      after = subst (λ (z : HeldAnchor). AllByRecursion (IsAfter z) ys) same up.0

      itself : change_precedes (change_of changed) (change_of y) ≡ false
      itself = ap (λ (z : HeldAnchor). before x.dedb x.anchor z.dedb z.anchor) same
          ∙ not_before_itself x.dedb x.anchor

      back : change_precedes (change_of y) (change_of changed) ≡ false
      back = ap (λ (z : HeldAnchor). before z.dedb z.anchor x.dedb x.anchor) same
          ∙ not_before_itself x.dedb x.anchor

      by : (t : Bool) → change_of changed ∷ changes_in ys
          ≡ put_change (change_of changed) (if t then change_of y ∷ changes_in ys else changes_in ys)
      by true = rw itself (rw back refl)
      by false = sym (put_front (change_of changed) ys after)
  set_changes (y ∷ ys) (suc n) up at = by y.is_changed (set_changes ys n up.1 at)
    where
      less : change_precedes (change_of y) (change_of changed) ≡ true
      less = has_at (IsAfter y) ys n x up.0 at

      back : change_precedes (change_of changed) (change_of y) ≡ false
      back = not_before_back y.dedb y.anchor x.dedb x.anchor less

      by : (t : Bool)
          → changes_in (slice_set ys n changed) ≡ put_change (change_of changed) (changes_in ys)
          → (if t then change_of y ∷ changes_in (slice_set ys n changed) else changes_in (slice_set ys n changed))
          ≡ put_change (change_of changed) (if t then change_of y ∷ changes_in ys else changes_in ys)
      by true later = rw back (rw less (ap (λ rest. change_of y ∷ rest) later))
      by false later = later

-- ---- what stands at an index

pub there_at : (xs : List HeldAnchor) (n : ℕ) (x : HeldAnchor) → n + 1 ≤ length xs → x ≡ slice_index_or xs n x
    → slice_get xs n ≡ Some x
there_at [] n x within is = absurd (omega (arith, within))
there_at (y ∷ ys) zero x within is = ap (λ (z : HeldAnchor). Some z) (sym is)
there_at (y ∷ ys) (suc n) x within is = there_at ys n x (omega (arith, within)) is

pub not_held : (xs : List HeldAnchor) (dedb anchor : ℕ) (a : HeldAnchor) → held_at xs dedb anchor ≡ Some a
    → held_at xs dedb anchor ≡ None → ⊥
not_held xs dedb anchor a some none = cc

pub set_itself : (xs : List HeldAnchor) (n : ℕ) (x : HeldAnchor) → slice_get xs n ≡ Some x → slice_set xs n x ≡ xs
set_itself [] n x at = refl
set_itself (y ∷ ys) zero x at = let same : y ≡ x = cc in ap (λ z. z ∷ ys) (sym same)
set_itself (y ∷ ys) (suc n) x at = ap (λ zs. y ∷ zs) (set_itself ys n x at)

-- ---- what the code says of a place

module _ (xs items : List HeldAnchor) (same : items ≡ xs) (dedb anchor n : ℕ)
    (place : Ascend items → IsPlaceOf dedb anchor items n) (there : Bool)
    (is : (a : HeldAnchor) → slice_get items n ≡ Some a → there ≡ is_anchor_of dedb anchor a)
    (none : slice_get items n ≡ None → there ≡ false) where
  order : Ascend xs → Ascend items
  order up = subst Ascend (sym same) up

  -- it stands there
  pub found_there : there ≡ true → Ascend xs
      → (a : HeldAnchor) × (slice_get items n ≡ Some a) × (is_anchor_of dedb anchor a ≡ true)
      × (held_at xs dedb anchor ≡ Some a)
  found_there standing up = by (slice_get items n) refl
    where
      by : (o : Option HeldAnchor) → slice_get items n ≡ o
          → (a : HeldAnchor) × (slice_get items n ≡ Some a) × (is_anchor_of dedb anchor a ≡ true)
          × (held_at xs dedb anchor ≡ Some a)
      by None e = absurd (not_both (sym standing ∙ none e))
      by (Some a) e =
          let its : is_anchor_of dedb anchor a ≡ true = sym (is a e) ∙ standing in (
            a,
            e,
            its,
            subst (λ zs. held_at zs dedb anchor ≡ Some a) same
                (stands dedb anchor items n a (order up) (place (order up)) e its),
          )

  -- it doesn't
  pub none_there : there ≡ false → Ascend xs → held_at xs dedb anchor ≡ None
  none_there lacking up = subst (λ zs. held_at zs dedb anchor ≡ None) same
      (lacks dedb anchor items n (order up) (place (order up)) (λ a at. sym (is a at) ∙ lacking))

  module _ (lacking : there ≡ false) (within : n ≤ length items) (roots : List Root) (new : List HeldAnchor) where
    abbrev one : HeldAnchor
    one = record { dedb = dedb; anchor = anchor; roots = roots; is_changed = false }

    module _ (put : new ≡ insert xs n one) where
      it_is : insert items n one ≡ new
      it_is = ap (λ zs. insert zs n one) same ∙ sym put

      pub put_order : Ascend xs → Ascend new
      put_order up = subst Ascend it_is
          (more_ascend one items n (order up) (place (order up)) (λ a at. sym (is a at) ∙ lacking) within)

      pub put_there : Ascend xs → held_at new dedb anchor ≡ Some one
      put_there up = subst (λ zs. held_at zs dedb anchor ≡ Some one) it_is
          (more_found one items n (place (order up)) within)

      pub put_others : (d a : ℕ) → (d == dedb && a == anchor) ≡ false → held_at new d a ≡ held_at xs d a
      put_others d a other = ap (λ zs. held_at zs d a) (sym it_is)
          ∙ more_others one items n d a (turned d a dedb anchor other) within
          ∙ ap (λ zs. held_at zs d a) same

      pub put_changes : changes_in new ≡ changes_in xs
      put_changes = ap changes_in (sym it_is) ∙ more_changes one items n refl within ∙ ap changes_in same

  -- an edit there
  pub edited_there : (x : HeldAnchor) (roots : List Root) (new : List HeldAnchor) → Ascend xs
      → slice_get items n ≡ Some x → is_anchor_of dedb anchor x ≡ true
      → new ≡ slice_set xs n (record x { roots = roots; is_changed = true })
      → IsEdited dedb anchor roots xs new
  edited_there x roots new up at its set =
      let y : HeldAnchor = record x { roots = roots; is_changed = true } in
      let here : slice_get xs n ≡ Some x = subst (λ (zs : List HeldAnchor). slice_get zs n ≡ Some x) same at in
      let names = both_numbers x.dedb x.anchor dedb anchor its in
      let named : y ≡ (record { dedb = dedb; anchor = anchor; roots = roots; is_changed = true }) =
      ap (λ (k : ℕ). let z : HeldAnchor = record y { dedb = k } in z) names.0
      ∙ ap (λ (k : ℕ). let z : HeldAnchor = record y { dedb = dedb; anchor = k } in z) names.1 in
      record {
        order = subst Ascend (sym set) (set_ascend x roots xs n up here);
        there =
            ap (λ zs. held_at zs dedb anchor) set
            ∙ ap (λ k. held_at (slice_set xs n y) k anchor) (sym names.0)
            ∙ ap (λ k. held_at (slice_set xs n y) x.dedb k) (sym names.1)
            ∙ set_found x roots xs n up here
            ∙ ap (λ (z : HeldAnchor). Some z) named;
        others = λ d a other.
            ap (λ zs. held_at zs d a) set
            ∙ set_others x roots xs n d a here
            (ap (λ k. k == d && x.anchor == a) names.0 ∙ ap (λ k. dedb == d && k == a) names.1
            ∙ turned d a dedb anchor other);
        changes =
            ap changes_in set ∙ set_changes x roots xs n up here
            ∙ ap (λ (z : HeldAnchor). put_change (change_of z) (changes_in xs)) named;
      }

-- ---- results

pub on_err_so : {A E : Type 0} (r : Result A E) (P Q : Type 0) → (P → Q) → OnErr r P → OnErr r Q
on_err_so (Ok a) P Q so p = tt
on_err_so (Err e) P Q so p = so p

-- ---- changes of a list that grows at its end

pub more_behind : (xs : List HeldAnchor) (a : HeldAnchor) → a.is_changed ≡ true
    → changes_in (xs ++ a ∷ []) ≡ changes_in xs ++ change_of a ∷ []
more_behind [] a e = rw e refl
more_behind (x ∷ xs) a e = by x.is_changed (more_behind xs a e)
  where
    by : (t : Bool) → changes_in (xs ++ a ∷ []) ≡ changes_in xs ++ change_of a ∷ []
        → (if t then change_of x ∷ changes_in (xs ++ a ∷ []) else changes_in (xs ++ a ∷ []))
        ≡ (if t then change_of x ∷ changes_in xs else changes_in xs) ++ change_of a ∷ []
    by true later = ap (λ rest. change_of x ∷ rest) later
    by false later = later

pub none_behind_it : (xs : List HeldAnchor) (a : HeldAnchor) → a.is_changed ≡ false
    → changes_in (xs ++ a ∷ []) ≡ changes_in xs
none_behind_it [] a e = rw e refl
none_behind_it (x ∷ xs) a e =
    ap (λ rest. if x.is_changed then change_of x ∷ rest else rest) (none_behind_it xs a e)
