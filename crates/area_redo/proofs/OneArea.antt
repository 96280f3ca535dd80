-- The example, by computation.
use Rattle.std.proofs.Common.{◌≡◌, inl, inr, ℕ, zero, suc, ◌+◌, ◌*◌, ◌<◌, ◌≤◌, false, List, length, refl, sym, ap, subst, arith, [], ◌∙◌}
use Rattle.std.specs.Prelude.{Some, None, ◌==◌, ◌&&◌}
use Rattle.std.proofs.lemmas.Bool.{cases_Bool, cases_eq}
use Rattle.std.proofs.lemmas.Bool.Decides.{nat_tests}
use Rattle.fp_model.specs.Items.{items_of}
use Rattle.area_redo.specs.Redo.{names, redone_at, AllBegin, interval_in, count_in, IsRedone, AreRedone}
use Rattle.area_redo.specs.Standing.{without, Stands, MayOpen, MayBeWritten}
use Rattle.area_redo.specs.Restart.{found_bytes, found_way, found_owed}
use Rattle.area_redo.specs.Example.{one_area, two_entries, intervals, the_bytes, area_of, torn, whole, other_control, resting}
use Rattle.area_redo.proofs.Finding.{found}

-- no other data set is an area
other_set : (set : ℕ) → (set ≡ 3 → ⊥) → (set == 3) ≡ false
other_set set ne = grind (arith, nat_tests)

-- what is counted of the area
two_intervals : (P : ℕ → Type 0) → P 0 → P 1 → (ci : ℕ) → ci < 2 → P ci
two_intervals P first second zero below = first
two_intervals P first second (suc zero) below = second
two_intervals P first second (suc (suc ci)) below = absurd (omega arith)

-- an image with this control, whatever stands behind it
pub redone_of : (image : List ℕ) → interval_in 4 image 0 ≡ intervals 0 → 4 ≤ length image
    → AreRedone one_area (items_of two_entries) the_bytes (area_of image)
redone_of image control long set = elim (cases_eq set 3) [
  | inl is ↦ subst (λ v. IsRedone 4 (count_in one_area the_bytes v) v (items_of two_entries) (area_of image v)
      (the_bytes v)) (sym is) area
  | inr ne ↦ let none = other_set set ne in record {
    gives = λ ci below.
        (let b = rw none at below in absurd (omega (arith, b)));
    inside =
        λ ci below unnamed. (let b = rw none at below in absurd (omega (arith, b)));
  }
]
  where
    area : IsRedone 4 2 3 (items_of two_entries) image intervals
    area = record {
      gives = two_intervals (λ ci. redone_at 3 ci (items_of two_entries) (interval_in 4 image ci) ≡
          intervals ci) control refl;
      inside = two_intervals (λ ci. names 3 ci (items_of two_entries) ≡ false → (ci + 1) * 4 ≤ length image)
          (λ unnamed. long) (λ unnamed. cc);
    }

-- another control isn't made right
pub other_not : ¬ (AreRedone one_area (items_of two_entries) the_bytes (area_of other_control))
other_not redone = let first : interval_in 4 other_control 0 ≡ intervals 0 = (redone 3).gives 0 (omega arith) in cc

begin : AllBegin (items_of two_entries)
begin set ci = elim (cases_Bool (set == 3 && ci == 1)) [
  | inl is ↦ rw is refl
  | inr other ↦ rw other refl
]

-- what a restart finds behind a torn write
pub found_torn : Stands one_area (found_way 0 two_entries) (found_owed 0 two_entries)
    (found_bytes one_area two_entries (area_of torn)) (resting (area_of torn))
found_torn = found one_area 0 two_entries (resting (area_of torn)) (record { begin = begin; inside = inside })
    (λ set some s left. ap (λ f. f set) left)
  where
    at_area : (ci : ℕ) → ci < 2 → names 3 ci (items_of two_entries) ≡ false → (ci + 1) * 4 ≤ 7
    at_area = two_intervals (λ ci. names 3 ci (items_of two_entries) ≡ false → (ci + 1) * 4 ≤ 7)
        (λ unnamed. omega arith) (λ unnamed. cc)

    inside : (set ci : ℕ) → ci < count_in one_area (found_bytes one_area two_entries (area_of torn)) set
        → names set ci (items_of two_entries) ≡ false → (ci + 1) * 4 ≤ length (area_of torn set)
    inside set ci = elim (cases_eq set 3) [
      | inl is ↦ subst (λ v. ci < count_in one_area (found_bytes one_area two_entries (area_of torn)) v
          → names v ci (items_of two_entries) ≡ false → (ci + 1) * 4 ≤ length (area_of torn v)) (sym is) (at_area ci)
      | inr ne ↦ λ below unnamed. (let b = rw (other_set set ne) at below in absurd (omega (arith, b)))
    ]

-- then interval 1 waits, and may be written;
pub may_be_written : MayBeWritten (found_way 0 two_entries) (found_owed 0 two_entries) 3 1
may_be_written = record { due = record { oldest = 0; newest = 1 }; is_owed = refl; is_sealed = omega arith }

-- no other interval does,
none_left : (set ci : ℕ) → without 3 1 (found_owed 0 two_entries) set ci ≡ None
none_left set ci = elim (cases_Bool (set == 3 && ci == 1)) [
  | inl is ↦ rw is refl
  | inr ne ↦ rw ne refl
]

-- and once it is written whole the area needs no items
plain : AreRedone one_area [] the_bytes (area_of whole)
plain set = elim (cases_eq set 3) [
  | inl is ↦ subst (λ v. IsRedone 4 (count_in one_area the_bytes v) v [] (area_of whole v) (the_bytes v)) (sym is) area
  | inr ne ↦
      let none = other_set set ne in
      record {
        gives = λ ci below. (let b = rw none at below in absurd (omega (arith, b)));
        inside = λ ci below unnamed. (let b = rw none at below in absurd (omega (arith, b)));
      }
]
  where
    area : IsRedone 4 2 3 [] whole intervals
    area = record {
      gives = two_intervals (λ ci. interval_in 4 whole ci ≡ intervals ci) refl refl;
      inside = two_intervals (λ ci. names 3 ci [] ≡ false → (ci + 1) * 4 ≤ 8) (λ unnamed. omega arith)
          (λ unnamed. omega arith);
    }

pub may_open_whole : MayOpen one_area (found_way 0 two_entries) (without 3 1 (found_owed 0 two_entries)) the_bytes
    (resting (area_of whole))
may_open_whole = record {
  none_below = λ set ci due is. (let both : None ≡ Some due = sym (none_left set ci) ∙ is in cc);
  redoes = λ s left. subst (AreRedone one_area [] the_bytes) (sym left) plain;
}
