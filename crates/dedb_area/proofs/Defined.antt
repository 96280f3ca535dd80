-- The areas of good definitions are ones that calls on areas can work on.
use Rattle.std.proofs.Common.{◌≡◌, inl, inr, ℕ, zero, suc, ◌+◌, ◌-◌, ◌*◌, ◌/◌, ◌<◌, ◌≤◌, true, List, [], ◌∷◌, ◌++◌, length, drop, refl, sym, subst, arith}
use Rattle.std.specs.Prelude.{IsTrue, slice_index_or}
use Rattle.std.specs.List.{AllByRecursion}
use Rattle.std.proofs.lemmas.Bool.{cases_Bool}
use Rattle.std.proofs.lemmas.Nat.{le-div}
use Rattle.std.proofs.Math.Nat.{mod-lt, mod-add-div, mul_comm}
use Rattle.ci_space.specs.Interval.{is_size}
use Rattle.fp_model.specs.declared.definitions.DedbDef.{DedbDef}
use Rattle.fp_model.specs.declared.definitions.SegDef.{SegDef}
use Rattle.fp_model.specs.State.{Area}
use Rattle.fp_model.specs.WellFormed.{EachFits, IsAreaDef, IsDedbDef, has_sequential, sequential_intervals}
use Rattle.seq_dependents.specs.Slots.{HoldsCapacity, slots_each}
use Rattle.area_states.specs.declared.place.Place.{Place}
use Rattle.area_states.specs.Places.{ArePlaces, IsPlace, part_of, place_of}
use Rattle.area_reading.proofs.Lengths.{first_length, sequential_first}
use Rattle.area_laws.proofs.DefLemmas.{has_type}

-- ---- the size

one_of_four : (n k : ℕ) → k < 4 → slice_index_or (512 ∷ 1024 ∷ 2048 ∷ 4096 ∷ []) k n ≡ n → IsTrue (is_size n)
one_of_four n zero below e = subst (λ m. IsTrue (is_size m)) e refl
one_of_four n (suc zero) below e = subst (λ m. IsTrue (is_size m)) e refl
one_of_four n (suc (suc zero)) below e = subst (λ m. IsTrue (is_size m)) e refl
one_of_four n (suc (suc (suc zero))) below e = subst (λ m. IsTrue (is_size m)) e refl
one_of_four n (suc (suc (suc (suc k)))) below e = absurd (omega (arith, below))

-- ---- the sequential part

-- so many slots need no more intervals than are rounded up
rounded_up : (capacity slots : ℕ) → 1 ≤ slots → capacity ≤ (capacity + slots - 1) / slots * slots
rounded_up capacity slots some =
    let whole = mod-add-div (capacity + slots - 1) slots in
    let left = mod-lt (capacity + slots - 1) {m = slots} (omega (arith, some)) in
    let turned = mul_comm ((capacity + slots - 1) / slots) slots in
    omega (arith, whole, left, turned, some)

slots_hold : (ci place capacity : ℕ) (types defs : List SegDef) → EachFits ci types place defs
    → has_sequential defs ≡ true
    → capacity ≤ sequential_intervals ci defs capacity * ((ci - 32) / (16 + first_length defs))
slots_hold ci place capacity types [] fits h = cc
slots_hold ci place capacity types (def ∷ defs) fits h = elim (cases_Bool def.sequential) [
  | inl is ↦
      let long : 16 + def.length ≤ ci - 32 = rw is at fits.0 in
      let one : 1 ≤ (ci - 32) / (16 + def.length) =
      le-div 1 (ci - 32) (16 + def.length) (omega arith) (omega (arith, long)) in
      rw is (rounded_up capacity ((ci - 32) / (16 + def.length)) one)
  | inr other ↦
      let rest : has_sequential defs ≡ true = rw other at h in
      rw other (slots_hold ci (place + 1) capacity types defs fits.1 rest)
]

holds_capacity : (def : DedbDef) (area : Area) → IsDedbDef def → IsAreaDef def.segments area.def
    → 0 < area.def.capacity → HoldsCapacity (part_of (place_of def area))
unfolding slots_each
holds_capacity def area is_def is_area some =
    let has = has_type (has_sequential def.segments) area.def.capacity is_area.capacity some in
    let enough = slots_hold def.ci 0 area.def.capacity def.segments def.segments is_def.fits has in
    record {
      some = omega (arith, some);
      fits = subst (λ n. area.def.capacity
          ≤ sequential_intervals def.ci def.segments area.def.capacity * ((def.ci - 32) / (16 + n)))
          (sym (sequential_first def.segments has)) enough;
    }

-- ---- an area

pub places_more : (places : List Place) (place : Place) → ArePlaces places → IsPlace place
    → ArePlaces (places ++ place ∷ [])
places_more [] place all is = (is, tt)
places_more (p ∷ places) place all is = (all.0, places_more places place all.1 is)

-- the first of those that are left
pub first_left : {X : Type 0} (P : X → Type 0) (xs : List X) (n : ℕ) (d : X) → n < length xs
    → AllByRecursion P (drop n xs) → P (slice_index_or xs n d)
first_left P [] n d lt all = absurd (omega (arith, lt))
first_left P (x ∷ xs) zero d lt all = all.0
first_left P (x ∷ xs) (suc n) d lt all = first_left P xs n d (omega (arith, lt)) all
