-- The flags of intervals.
use Rattle.std.proofs.Common.{◌≡◌, inl, inr, ℕ, zero, suc, ◌+◌, ◌-◌, ◌<◌, ◌≤◌, ◌++◌, ◌∷◌, [], Bool, true, false, List, length, take, get_or, refl, sym, ◌∙◌, ap, subst, arith}
use Rattle.std.specs.Prelude.{nat_lt, ◌==◌, ◌&&◌, ◌||◌, slice_get, slice_set, Option, Some, None, unwrap_or}
use Rattle.std.proofs.lemmas.Bool.Decides.{nat_tests}
use Rattle.std.proofs.lemmas.Bool.{cases_Bool, cases_eq}
use Rattle.std.specs.List.{list_any}
use Rattle.fp_model.specs.State.{first_area_set}
use Rattle.fp_model.specs.ItemTargets.{names_interval}
use Rattle.fp_model.specs.declared.log.Item.{Item}
use Rattle.fp_model.specs.declared.log.Item.TheVariants.{Segment, Image, Range}
use Rattle.area_staging.specs.Flags.{AreFlagged, AreNoted, IsFlagged}
use Rattle.area_staging.specs.Items.{HasFlag, flag_at, is_imaged}
use Rattle.plain_laws.proofs.Places.{get_other, get_set_same, length_set}
use Rattle.plain_laws.proofs.Numbers.{other_number, same_number}

-- a flag more says false
pub flag_more : (flags : List Bool) (k : ℕ) → flag_at (Some (flags ++ false ∷ [])) k ≡ flag_at (Some flags) k
flag_more [] zero = refl
flag_more [] (suc k) = refl
flag_more (f ∷ flags) zero = refl
flag_more (f ∷ flags) (suc k) = flag_more flags k

no_flag : (o : Option (List Bool)) (ci : ℕ) → ((flags : List Bool) → o ≡ Some flags → flags ≡ []) → flag_at o ci ≡ false
no_flag None ci none = refl
no_flag (Some flags) ci none = ap (λ l. flag_at (Some l) ci) (none flags refl)

-- where no area has flags, no interval has an item
pub none_flagged : (imaged : List (List Bool)) → ((n : ℕ) (flags : List Bool) → slice_get imaged n ≡ Some flags
    → flags ≡ []) → (set ci : ℕ) → is_imaged imaged set ci ≡ false
none_flagged imaged none set ci = elim (cases_Bool (nat_lt set first_area_set)) [
  | inl low ↦ rw low refl
  | inr high ↦ rw high (no_flag (slice_get imaged (set - first_area_set)) ci (none (set - first_area_set)))
]

-- ---- one more interval with an item

there_at : (flags : List Bool) (k : ℕ) → k < length flags → (b : Bool) × (slice_get flags k ≡ Some b)
there_at [] k lt = absurd (omega (arith, lt))
there_at (f ∷ flags) zero lt = (f, refl)
there_at (f ∷ flags) (suc k) lt = there_at flags k (omega (arith, lt))

flag_of : (flags : List Bool) (ci k : ℕ) → ci < length flags
    → flag_at (Some (slice_set flags ci true)) k ≡ ((k == ci) || flag_at (Some flags) k)
flag_of flags ci k lt = elim (cases_eq k ci) [
  | inl e ↦
      let was = there_at flags ci lt in
      let here : slice_get (slice_set flags ci true) k ≡ Some true =
      ap (slice_get (slice_set flags ci true)) e ∙ get_set_same flags ci true was.0 was.1 in
      ap (λ o. unwrap_or o false) here ∙ sym (ap (λ b. b || flag_at (Some flags) k) (same_number k ci e))
  | inr ne ↦
      ap (λ o. unwrap_or o false) (get_other flags ci k true ne)
      ∙ sym (ap (λ b. b || flag_at (Some flags) k) (other_number k ci ne))
]

pub flag_noted : (imaged after : List (List Bool)) (set ci : ℕ) (flags : List Bool) → first_area_set ≤ set
    → slice_get imaged (set - first_area_set) ≡ Some flags → ci < length flags
    → after ≡ slice_set imaged (set - first_area_set) (slice_set flags ci true) → (s k : ℕ)
    → is_imaged after s k ≡ ((s == set && k == ci) || is_imaged imaged s k)
flag_noted imaged after set ci flags area is below e s k =
    ap (λ l. is_imaged l s k) e ∙ elim (cases_Bool (nat_lt s first_area_set)) [
      | inl low ↦
          let ne : s ≡ set → ⊥ = λ q. (let lt : s < first_area_set = grind (arith, nat_tests) in omega (arith, lt, area, q)) in
          rw (low, other_number s set ne) refl
      | inr high ↦
          let from : first_area_set ≤ s = grind (arith, nat_tests) in
          elim (cases_eq s set) [
            | inl q ↦
                let n : s - first_area_set ≡ set - first_area_set = ap (λ x. x - first_area_set) q in
                let now : slice_get (slice_set imaged (set - first_area_set) (slice_set flags ci true)) (s - first_area_set)
                ≡ Some (slice_set flags ci true) =
                ap (slice_get (slice_set imaged (set - first_area_set) (slice_set flags ci true))) n
                ∙ get_set_same imaged (set - first_area_set) (slice_set flags ci true) flags is in
                let old : slice_get imaged (s - first_area_set) ≡ Some flags = ap (slice_get imaged) n ∙ is in
                rw (high, same_number s set q, now, old) (flag_of flags ci k below)
            | inr ne ↦
                let other : slice_get (slice_set imaged (set - first_area_set) (slice_set flags ci true)) (s - first_area_set)
                ≡ slice_get imaged (s - first_area_set) =
                get_other imaged (set - first_area_set) (s - first_area_set) (slice_set flags ci true)
                (λ q. ne (omega (arith, q, from, area))) in
                rw (high, other_number s set ne, other) refl
          ]
    ]

-- each interval with a flag has one still
pub still_flagged : (imaged after : List (List Bool)) (set ci : ℕ) (flags : List Bool)
    → slice_get imaged (set - first_area_set) ≡ Some flags
    → after ≡ slice_set imaged (set - first_area_set) (slice_set flags ci true) → (s k : ℕ)
    → HasFlag imaged s k → HasFlag after s k
still_flagged imaged after set ci flags is e s k has = elim (cases_eq (s - first_area_set) (set - first_area_set)) [
  | inl n ↦
      let both : Some has.flags ≡ Some flags = sym has.is ∙ ap (slice_get imaged) n ∙ is in
      let same : has.flags ≡ flags = cc in
      let long = length_set flags ci true in
      let below = has.below in
      let l : length has.flags ≡ length flags = ap length same in
      record {
        flags = slice_set flags ci true;
        is = ap (λ l. slice_get l (s - first_area_set)) e
            ∙ ap (slice_get (slice_set imaged (set - first_area_set) (slice_set flags ci true))) n
            ∙ get_set_same imaged (set - first_area_set) (slice_set flags ci true) flags is;
        below = omega (arith, below, long, l);
      }
  | inr ne ↦ record {
    flags = has.flags;
    is = ap (λ l. slice_get l (s - first_area_set)) e
        ∙ get_other imaged (set - first_area_set) (s - first_area_set) (slice_set flags ci true) ne
        ∙ has.is;
    below = has.below;
  }
]

-- ---- the items of a list

-- where no flag goes, each item's interval keeps its flag
pub all_flagged : (imaged after : List (List Bool)) → ((s k : ℕ) → HasFlag imaged s k → HasFlag after s k)
    → (items : List Item) → AreFlagged imaged items → AreFlagged after items
all_flagged imaged after more [] all = tt
all_flagged imaged after more (Segment msdb key bytes ∷ items) all = (tt, all_flagged imaged after more items all.1)
all_flagged imaged after more (Image set ci bytes ∷ items) all =
    ((all.0.0, more set ci all.0.1), all_flagged imaged after more items all.1)
all_flagged imaged after more (Range set ci at bytes ∷ items) all =
    ((all.0.0, more set ci all.0.1), all_flagged imaged after more items all.1)

any_more : {X : Type 0} (p : X → Bool) (xs : List X) (x : X)
    → list_any p (xs ++ x ∷ []) ≡ (list_any p (x ∷ []) || list_any p xs)
any_more p [] x = elim (cases_Bool (p x)) [
  | inl e ↦ rw e refl
  | inr e ↦ rw e refl
]
any_more p (y ∷ xs) x = elim (cases_Bool (p y)) [
  | inl e ↦ elim (cases_Bool (p x)) [
    | inl f ↦ rw (e, f) refl
    | inr f ↦ rw (e, f) refl
  ]
  | inr e ↦ let rest = any_more p xs x in rw e rest
]

or_moves : (a b c d : Bool) → d ≡ (a || b) → (a || (b || c)) ≡ (d || c)
or_moves true b c d e = ap (λ x. x || c) (sym e)
or_moves false b c d e = ap (λ x. x || c) (sym e)

taken_more : {X : Type 0} (xs : List X) (n : ℕ) (x : X) → n < length xs → x ≡ get_or xs n x
    → take (n + 1) xs ≡ take n xs ++ x ∷ []
taken_more [] n x lt e = absurd (omega (arith, lt))
taken_more {X} (y ∷ xs) zero x lt e = ap (λ (z : X). z ∷ []) (sym e)
taken_more {X} (y ∷ xs) (suc n) x lt e =
    let next : suc n + 1 ≡ suc (n + 1) = omega arith in
    ap (λ k. take k (y ∷ xs)) next ∙ ap (λ l. y ∷ l) (taken_more xs n x (omega (arith, lt)) e)

pub noted_more : (items : List Item) (n : ℕ) (item : Item) (initial mid after : List (List Bool)) → n < length items
    → item ≡ get_or items n item → AreNoted (take n items) initial mid → AreNoted (item ∷ []) mid after
    → AreNoted (take (n + 1) items) initial after
noted_more items n item initial mid after lt is before now set ci =
    let p : Item → Bool = names_interval set ci in
    let all : list_any p (take (n + 1) items) ≡ (list_any p (item ∷ []) || list_any p (take n items)) =
    ap (list_any p) (taken_more items n item lt is) ∙ any_more p (take n items) item in
    now set ci ∙ ap (λ b. list_any p (item ∷ []) || b) (before set ci)
    ∙ or_moves (list_any p (item ∷ [])) (list_any p (take n items)) (is_imaged initial set ci)
    (list_any p (take (n + 1) items)) all

pub item_flagged : (imaged : List (List Bool)) (items : List Item) (n : ℕ) (item : Item) → n < length items
    → item ≡ get_or items n item → AreFlagged imaged items → IsFlagged imaged item
item_flagged imaged [] n item lt is all = absurd (omega (arith, lt))
item_flagged imaged (x ∷ items) zero item lt is all = subst (IsFlagged imaged) (sym is) all.0
item_flagged imaged (x ∷ items) (suc n) item lt is all = item_flagged imaged items n item (omega (arith, lt)) is all.1
