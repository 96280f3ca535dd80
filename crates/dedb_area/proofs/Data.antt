-- Data sets that are areas.
use Rattle.std.proofs.Common.{◌≡◌, ◌∙◌, inl, inr, ℕ, ◌+◌, ◌-◌, ◌<◌, ◌≤◌, zero, suc, List, [], ◌∷◌, ap, get_or, length, subst, arith}
use Rattle.std.specs.Prelude.{nat_lt, slice_get, Some, None, IsSome, IsTrue}
use Rattle.std.proofs.lemmas.Bool.{cases_Bool}
use Rattle.std.proofs.lemmas.Bool.Decides.{nat_tests}
use Rattle.ci_space.specs.Interval.{is_size}
use Rattle.fp_model.specs.State.{first_area_set}
use Rattle.area_states.specs.declared.place.Place.{Place}
use Rattle.area_states.specs.Places.{place_at, IsPlace, ArePlaces}
use Rattle.area_laws.proofs.FullLemmas.{at_set}
use Rattle.plain_laws.proofs.Places.{stands_at}

-- an area's data set is behind those of the log and the checkpoints
pub area_behind : (places : List Place) (set : ℕ) → IsSome (place_at places set) → first_area_set ≤ set
area_behind places set is = elim (cases_Bool (nat_lt set first_area_set)) [
  | inl low ↦ let none : IsSome {T = Place} None = rw low at is in cc
  | inr high ↦ grind (arith, nat_tests)
]

-- a size is at least 1
pub some_size : (n : ℕ) → IsTrue (is_size n) → 1 ≤ n
some_size n is = grind (arith, nat_tests)

-- the area of a data set is one
pub place_there : (places : List Place) (set : ℕ) (place : Place) → ArePlaces places → place_at places set ≡ Some place
    → IsPlace place
place_there places set place are is = elim (cases_Bool (nat_lt set first_area_set)) [
  | inl low ↦ let none : None ≡ Some place = rw low at is in cc
  | inr high ↦ let here : slice_get places (set - first_area_set) ≡ Some place = rw high at is in
      at_place places (set - first_area_set) are here
]
  where
    at_place : (ps : List Place) (k : ℕ) → ArePlaces ps → slice_get ps k ≡ Some place → IsPlace place
    at_place [] k all h = cc
    at_place (p ∷ ps) zero all h = let e : p ≡ place = cc in subst IsPlace e all.0
    at_place (p ∷ ps) (suc k) all h = at_place ps k all.1 h

-- the area that a loop along them is at
pub place_in_turn : (places : List Place) (set index : ℕ) (place : Place) → set ≡ first_area_set + index
    → index < length places → place ≡ get_or places index place → place_at places set ≡ Some place
place_in_turn places set index place here lt is =
    ap (place_at places) here ∙ at_set places index place (stands_at places index place lt is)
