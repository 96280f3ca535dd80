-- Room for sequential inserts, as they are put one by one.
use Rattle.std.proofs.Common.{◌≡◌, inl, inr, ℕ, suc, ◌+◌, ◌-◌, ◌^◌, ◌≤◌, Bool, true, false, List, ◌∷◌, refl, subst, arith}
use Rattle.std.specs.Prelude.{nat_lt}
use Rattle.std.proofs.lemmas.Bool.{cases_Bool, or_parts}
use Rattle.std.proofs.lemmas.Bool.Decides.{nat_tests}
use Rattle.fp_model.specs.declared.calls.SeqInsert.{SeqInsert}
use Rattle.fp_model.specs.declared.database.AreaEnds.{AreaEnds}
use Rattle.fp_model.specs.Commit.{is_too_full}
use Rattle.seq_dependents.specs.Puts.{IsTooMany}
use Rattle.area_states.specs.declared.place.Place.{Place}
use Rattle.area_states.specs.States.{AreaState}
use Rattle.area_states.specs.Changes.{HasRoom, count_of, ends_of, takes, with_insert, numbered_at}

-- what the test says
pub room_is : (capacity : ℕ) (ends : AreaEnds) (n : ℕ) → is_too_full capacity ends n ≡ false
    → (ends.end - ends.begin + n ≤ capacity) × (ends.end + n ≤ 2 ^ 62)
room_is capacity ends n h =
    let parts = or_parts (nat_lt capacity (ends.end - ends.begin + n)) (nat_lt (2 ^ 62) (ends.end + n)) h in
    let few : ends.end - ends.begin + n ≤ capacity = grind (arith, nat_tests, parts.0) in
    let low : ends.end + n ≤ 2 ^ 62 = grind (arith, nat_tests, parts.1) in
    (few, low)

pub room_so : (capacity : ℕ) (ends : AreaEnds) (n : ℕ) → ends.end - ends.begin + n ≤ capacity
    → ends.end + n ≤ 2 ^ 62 → is_too_full capacity ends n ≡ false
room_so capacity ends n few low =
    let a : nat_lt capacity (ends.end - ends.begin + n) ≡ false = grind (arith, nat_tests, few) in
    let b : nat_lt (2 ^ 62) (ends.end + n) ≡ false = grind (arith, nat_tests, low) in
    rw (a, b) refl

-- where there is room it isn't too full
pub not_too_many : (capacity begin end n : ℕ) (ends : AreaEnds) → begin ≡ ends.begin → end ≡ ends.end
    → is_too_full capacity ends n ≡ false → ¬ IsTooMany capacity begin end n
not_too_many capacity begin end n ends b e room full =
    let is = room_is capacity ends n room in
    let few = is.0 in
    let low = is.1 in
    elim full as (λ _. ⊥) [ inl l ↦ omega (arith, b, e, few, l) | inr l ↦ omega (arith, b, e, low, l) ]

-- one more of this area
pub count_here : (place : Place) (i : SeqInsert) (rest : List SeqInsert) → takes place i ≡ true
    → count_of place (i ∷ rest) ≡ suc (count_of place rest)
count_here place i rest is = rw is refl

pub count_other : (place : Place) (i : SeqInsert) (rest : List SeqInsert) → takes place i ≡ false
    → count_of place (i ∷ rest) ≡ count_of place rest
count_other place i rest other = rw other refl

-- where there is room for all, there is for the first,
pub room_first : (place : Place) (state : AreaState) (i : SeqInsert) (rest : List SeqInsert)
    → HasRoom place state (count_of place (i ∷ rest)) → takes place i ≡ true → HasRoom place state 1
room_first place state i rest room is =
    let n = count_here place i rest is in
    let have = room_is place.capacity (ends_of state) (count_of place (i ∷ rest)) room in
    let few = have.0 in
    let low = have.1 in
    room_so place.capacity (ends_of state) 1 (omega (arith, n, few)) (omega (arith, n, low))

-- and behind it for the others
pub room_rest : (place : Place) (state : AreaState) (i : SeqInsert) (rest : List SeqInsert)
    → HasRoom place state (count_of place (i ∷ rest))
    → HasRoom place (with_insert place state i) (count_of place rest)
room_rest place state i rest room = elim (cases_Bool (takes place i)) [
  | inl is ↦
      let n = count_here place i rest is in
      let have = room_is place.capacity (ends_of state) (count_of place (i ∷ rest)) room in
      let few = have.0 in
      let low = have.1 in
      rw is (room_so place.capacity (ends_of (numbered_at place i state)) (count_of place rest)
      (omega (arith, n, few)) (omega (arith, n, low)))
  | inr other ↦
      let same : HasRoom place state (count_of place rest) =
      subst (λ n. HasRoom place state n) (count_other place i rest other) room in
      rw other same
]

-- the test of ends that are the state's
pub room_ends : (capacity n : ℕ) (ends : AreaEnds) (state : AreaState) (b : Bool) → ends.begin ≡ state.begin
    → ends.end ≡ state.end → is_too_full capacity ends n ≡ b → is_too_full capacity (ends_of state) n ≡ b
room_ends capacity n ends state b e f h = rw (← e, ← f) h
