-- Items are applied to a pool, one after another.
use Rattle.std.proofs.Common.{◌≡◌, inl, inr, ℕ, zero, suc, ◌+◌, ◌-◌, ◌<◌, ◌^◌, Bool, true, false, ◌||◌, List, [], ◌∷◌, ◌++◌, length, take, drop, refl, sym, ◌∙◌, ap, subst, arith}
use Rattle.std.specs.Prelude.{◌==◌, ◌&&◌, if◌then◌else◌, slice_get, Option, Some, None, IsSome}
use Rattle.std.specs.List.{AllByRecursion}
use Rattle.std.proofs.lemmas.Bool.{cases_Bool}
use Rattle.std.proofs.lemmas.Bool.Decides.{nat_tests}
use Rattle.fp_site.specs.Disk.{written}
use Rattle.fp_model.specs.declared.log.Item.{Item}
use Rattle.fp_model.specs.declared.log.Item.TheVariants.{Segment, Image, Range}
use Rattle.area_redo.specs.Redo.{names, redone_at}
use Rattle.area_redo.proofs.Items.{redone_more, redone_none, names_more}
use Rattle.ci_pool.specs.declared.cell.Waiting.{Waiting}
use Rattle.ci_pool.specs.Cells.{renewed, renewed_by}
use Rattle.ci_pool.specs.Held.{Held, pending_at, staged_at, HasSize}
use Rattle.area_states.specs.declared.place.Place.{Place}
use Rattle.area_states.specs.Places.{place_at}
use Rattle.dedb_area.specs.Standing.{IsFitPool, IsUnstaged}
use Rattle.dedb_area.specs.Applying.{pending_bytes, with_items_at, IsApplied, IsFitImage, LiesWithin, LacksImage}
use Rattle.dedb_area.specs.inside.Applying.{IsPended, EndsInTime, IsAppliable, IsWithoutImage}

-- ---- one list of items after another

twice : (place : ℕ) (first second : List ℕ) (c : List ℕ → List ℕ) (w : Option Waiting) → c first ≡ second
    → renewed place (c (renewed place first w).bytes) (Some (renewed place first w)) ≡ renewed place second w
twice place first second c None is = ap (λ b. record { oldest = place; newest = place; bytes = b }) is
twice place first second c (Some v) is = ap (λ b. record { oldest = v.oldest; newest = place; bytes = b }) is

by_tests : (a b : Bool) (place : ℕ) (first : List ℕ) (c : List ℕ → List ℕ) (w : Option Waiting)
    → (b ≡ false → (x : List ℕ) → c x ≡ x) → (a ≡ false → first ≡ pending_bytes w)
    → (if b
    then Some (renewed place (c (pending_bytes (if a then Some (renewed place first w) else w)))
    (if a then Some (renewed place first w) else w))
    else (if a then Some (renewed place first w) else w))
    ≡ (if a || b then Some (renewed place (c first) w) else w)
by_tests true true place first c w none none2 = ap Some (twice place first (c first) c w refl)
by_tests true false place first c w none none2 = ap (λ b. Some (renewed place b w)) (sym (none refl first))
by_tests false true place first c w none none2 = ap (λ b. Some (renewed place (c b) w)) (sym (none2 refl))
by_tests false false place first c w none none2 = refl

one_more : (place s k : ℕ) (items : List Item) (item : Item) (w : Option Waiting)
    → with_items_at place s k (item ∷ []) (with_items_at place s k items w)
    ≡ with_items_at place s k (items ++ item ∷ []) w
one_more place s k items item w =
    by_tests (names s k items) (names s k (item ∷ [])) place (redone_at s k items (pending_bytes w))
    (redone_at s k (item ∷ [])) w (λ f x. redone_none s k (item ∷ []) x f)
    (λ f. redone_none s k items (pending_bytes w) f)
    ∙ ap (λ t. if t then Some (renewed place (redone_at s k (item ∷ []) (redone_at s k items (pending_bytes w))) w) else w)
    (sym (names_more s k items (item ∷ [])))
    ∙ ap (λ b. if names s k (items ++ item ∷ []) then Some (renewed place b w) else w)
    (sym (redone_more s k items (item ∷ []) (pending_bytes w)))

pub applied_more : (place : ℕ) (items : List Item) (item : Item) (a b c : Held) → IsApplied place items a b
    → IsApplied place (item ∷ []) b c → IsApplied place (items ++ item ∷ []) a c
applied_more place items item a b c first second s k =
    second s k ∙ ap (with_items_at place s k (item ∷ [])) (first s k) ∙ one_more place s k items item (pending_at a s k)

-- ---- one item

by_image : (t : Bool) (place : ℕ) (bytes : List ℕ) (w : Option Waiting)
    → (if t then Some (renewed place bytes w) else w)
    ≡ (if t || false then Some (renewed place (if t then bytes else pending_bytes w) w) else w)
by_image true place bytes w = refl
by_image false place bytes w = refl

pub applied_image : (place set ci : ℕ) (bytes : List ℕ) (pool after : Held) → IsPended place set ci bytes pool after
    → IsApplied place (Image set ci bytes ∷ []) pool after
applied_image place set ci bytes pool after pended s k =
    pended s k ∙ by_image (s == set && k == ci) place bytes (pending_at pool s k)

by_range : (t : Bool) (place at : ℕ) (from : List ℕ) (w : Waiting) (o : Option Waiting) → (t ≡ true → o ≡ Some w)
    → (if t then Some (renewed place (written w.bytes at from) o) else o)
    ≡ (if t || false then Some (renewed place (if t then written (pending_bytes o) at from else pending_bytes o) o) else o)
by_range true place at from w o is =
    ap (λ b. Some (renewed place (written b at from) o)) (sym (ap pending_bytes (is refl)))
by_range false place at from w o is = refl

pub applied_range : (place set ci at : ℕ) (from : List ℕ) (w : Waiting) (pool after : Held)
    → pending_at pool set ci ≡ Some w → IsPended place set ci (written w.bytes at from) pool after
    → IsApplied place (Range set ci at from ∷ []) pool after
applied_range place set ci at from w pool after is pended s k =
    pended s k ∙ by_range (s == set && k == ci) place at from w (pending_at pool s k) there
  where
    there : (s == set && k == ci) ≡ true → pending_at pool s k ≡ Some w
    there t =
        let es : s ≡ set = grind (arith, nat_tests) in
        let ek : k ≡ ci = grind (arith, nat_tests) in
        ap (λ v. pending_at pool v k) es ∙ ap (pending_at pool set) ek ∙ is

-- ---- bytes are staged, and published

by_staged : (t : Bool) (place : ℕ) (bytes : List ℕ) (o : Option (List ℕ)) (w : Option Waiting) → o ≡ None
    → renewed_by place (if t then Some bytes else o) w ≡ (if t then Some (renewed place bytes w) else w)
by_staged true place bytes o w none = refl
by_staged false place bytes o w none = ap (λ x. renewed_by place x w) none

pub pended : (place set ci : ℕ) (bytes : List ℕ) (pool mid after : Held) → IsUnstaged pool
    → ((s k : ℕ) → staged_at mid s k ≡ (if s == set && k == ci then Some bytes else staged_at pool s k))
    → ((s k : ℕ) → pending_at mid s k ≡ pending_at pool s k)
    → ((s k : ℕ) → pending_at after s k ≡ renewed_by place (staged_at mid s k) (pending_at mid s k))
    → IsPended place set ci bytes pool after
pended place set ci bytes pool mid after none staged same published s k =
    published s k ∙ ap (λ o. renewed_by place o (pending_at mid s k)) (staged s k)
    ∙ ap (renewed_by place (if s == set && k == ci then Some bytes else staged_at pool s k)) (same s k)
    ∙ by_staged (s == set && k == ci) place bytes (staged_at pool s k) (pending_at pool s k) (none s k)

-- ---- the pool fits as before

renewed_newest : (place : ℕ) (bytes : List ℕ) (o : Option Waiting) → (renewed place bytes o).newest ≡ place
renewed_newest place bytes None = refl
renewed_newest place bytes (Some w) = refl

module _ (places : List Place) (place set ci : ℕ) (bytes : List ℕ) (pool after : Held)
    (is : IsPended place set ci bytes pool after) (none : IsUnstaged after)
    (sizes : (s n : ℕ) → (s ≡ set → length bytes ≡ n) → HasSize s n pool → HasSize s n after) (p : Place)
    (there : place_at places set ≡ Some p) (long : length bytes ≡ p.shape.ci) (fit : IsFitPool places pool) where
  same_size : (s : ℕ) (q : Place) → place_at places s ≡ Some q → s ≡ set → length bytes ≡ q.shape.ci
  same_size s q other e =
      let both : Some p ≡ Some q = sym there ∙ sym (ap (place_at places) e) ∙ other in
      let same : p ≡ q = cc in
      long ∙ ap (λ (r : Place). r.shape.ci) same

  -- an interval is this one, or pending as before
  by_this : (s k : ℕ) (w : Waiting) (P : Type 0) → pending_at after s k ≡ Some w
      → (s ≡ set → w ≡ renewed place bytes (pending_at pool s k) → P) → (pending_at pool s k ≡ Some w → P) → P
  by_this s k w P h f g = elim (cases_Bool (s == set && k == ci)) [
    | inl t ↦
        let es : s ≡ set = grind (arith, nat_tests) in
        let now : pending_at after s k ≡ Some (renewed place bytes (pending_at pool s k)) = rw t at (is s k) in
        let both : Some w ≡ Some (renewed place bytes (pending_at pool s k)) = sym h ∙ now in
        f es (cc)
    | inr t ↦
        let now : pending_at after s k ≡ pending_at pool s k = rw t at (is s k) in
        g (sym now ∙ h)
  ]

  pub fit_pended : place < 2 ^ 64 - 1 → IsFitPool places after
  fit_pended below = record {
    sizes = λ s q other. sizes s q.shape.ci (same_size s q other) (fit.sizes s q other);
    areas = λ s k w h. by_this s k w (IsSome (place_at places s)) h
        (λ e same. subst (λ (o : Option Place). IsSome o) (sym (ap (place_at places) e ∙ there)) refl)
        (λ was. fit.areas s k w was);
    below = λ s k w h. by_this s k w (w.newest < 2 ^ 64 - 1) h
        (λ e same. subst (λ n. n < 2 ^ 64 - 1)
        (sym (ap (λ (v : Waiting). v.newest) same ∙ renewed_newest place bytes (pending_at pool s k))) below)
        (λ was. fit.below s k w was);
    unstaged = none;
  }

-- ---- the items of an entry

ends_of_item : (places : List Place) (item : Item) → IsFitImage places item → EndsInTime item
ends_of_item places (Segment msdb key bytes) fit = tt
ends_of_item places (Image set ci bytes) fit = fit.ends
ends_of_item places (Range set ci at bytes) fit = tt

pub all_end : (places : List Place) (items : List Item) → AllByRecursion (IsFitImage places) items
    → AllByRecursion EndsInTime items
all_end places [] fit = tt
all_end places (item ∷ items) fit = (ends_of_item places item fit.0, all_end places items fit.1)

pub item_at : (P : Item → Type 0) (items : List Item) (n : ℕ) (item : Item) → AllByRecursion P items
    → slice_get items n ≡ Some item → P item
item_at P [] n item all is = cc
item_at P (x ∷ items) zero item all is = let e : x ≡ item = cc in subst P e all.0
item_at P (x ∷ items) (suc n) item all is = item_at P items n item all.1 is

-- the item that comes next is a range without an image
pub lacks_at : (place n : ℕ) (before now : Held) (items : List Item) (item : Item) (s k : ℕ)
    → slice_get items n ≡ Some item → IsApplied place (take n items) before now → IsWithoutImage now item s k
    → LacksImage place before items s k
lacks_at place n before now items (Segment msdb key bytes) s k is applied lacks = absurd lacks
lacks_at place n before now items (Image set ci bytes) s k is applied lacks = absurd lacks
lacks_at place n before now items (Range set ci at bytes) s k is applied lacks = record {
  n = n;
  at = at;
  bytes = bytes;
  is = is ∙ ap (λ v. Some (Range v ci at bytes)) lacks.0 ∙ ap (λ v. Some (Range s v at bytes)) lacks.1;
  lacks = λ within. lacks.2 (subst (λ o. LiesWithin o at (length bytes)) (sym here) within);
}
  where
    here : pending_at now set ci ≡ with_items_at place s k (take n items) (pending_at before s k)
    here = ap (λ v. pending_at now v ci) lacks.0 ∙ ap (pending_at now s) lacks.1 ∙ applied s k

-- or it may be applied
pub appliable_at : (place n set ci at : ℕ) (bytes : List ℕ) (before now : Held) (items : List Item) (item : Item)
    → slice_get items n ≡ Some item → item ≡ Range set ci at bytes → IsApplied place (take n items) before now
    → IsAppliable now item → LiesWithin (with_items_at place set ci (take n items) (pending_at before set ci)) at (length bytes)
appliable_at place n set ci at bytes before now items item here is applied can =
    let range : IsAppliable now (Range set ci at bytes) = subst (IsAppliable now) is can in
    subst (λ o. LiesWithin o at (length bytes)) (applied set ci) range

-- what holds of the items from one on holds of those behind it
left_suc : (P : Item → Type 0) (items : List Item) (n : ℕ) → AllByRecursion P (drop n items)
    → AllByRecursion P (drop (suc n) items)
left_suc P [] zero all = tt
left_suc P [] (suc n) all = tt
left_suc P (item ∷ items) zero all = all.1
left_suc P (item ∷ items) (suc n) all = left_suc P items n all

pub left_of_all : (P : Item → Type 0) (items : List Item) (n : ℕ) → AllByRecursion P (drop n items)
    → AllByRecursion P (drop (n + 1) items)
left_of_all P items n all =
    let e : suc n ≡ n + 1 = omega arith in
    subst (λ m. AllByRecursion P (drop m items)) e (left_suc P items n all)
