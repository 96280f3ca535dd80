-- Good definitions give areas whose intervals hold what the calls put into them.
use Rattle.std.proofs.Common.{◌≡◌, inl, inr, ℕ, zero, suc, ◌+◌, ◌*◌, ◌-◌, ◌/◌, ◌<◌, ◌≤◌, Bool, true, false, List, [], ◌∷◌, ◌++◌, length, map, Some, refl, sym, ap, subst, arith}
use Rattle.std.specs.Prelude.{Contains, IsTrue, nat_lt, slice_get}
use Rattle.std.specs.List.{AllByRecursion, position_or_len}
use Rattle.std.proofs.lemmas.Bool.{cases_Bool}
use Rattle.std.proofs.lemmas.Bool.Decides.{nat_tests}
use Rattle.std.proofs.lemmas.Nat.{div-add-mod', mod_below}
use Rattle.ci_space.specs.Interval.{is_size}
use Rattle.fp_model.specs.declared.definitions.AreaDef.{AreaDef}
use Rattle.fp_model.specs.declared.definitions.DedbDef.{DedbDef}
use Rattle.fp_model.specs.declared.definitions.Defs.{Defs}
use Rattle.fp_model.specs.declared.definitions.SegDef.{SegDef}
use Rattle.fp_model.specs.Order.{sequential_type}
use Rattle.fp_model.specs.State.{Area, anchors_in, areas_from}
use Rattle.fp_model.specs.WellFormed.{AreDefs, EachFits, HasCapacity, IsAreaDef, IsDedbDef, has_sequential, sequential_intervals, stored_length}
use Rattle.seq_dependents.specs.Slots.{HoldsCapacity, slots_each}
use Rattle.area_states.specs.declared.place.Place.{Place}
use Rattle.area_states.specs.Places.{ArePlaces, IsPlace, part_of, place_of, places_from, places_of, sequential_length}
use Rattle.state_laws.proofs.Lists.{true_is_not_false}
use Rattle.plain_laws.proofs.Alls.{contains_cases, contains_nothing}
use Rattle.std.proofs.lemmas.Option.{none-some, same_Some, slice_get_within}

-- ---- as many slots as the capacity

-- a part rounded up holds the whole
held : (capacity slots : ℕ) → 0 < slots → capacity ≤ (capacity + slots - 1) / slots * slots
held capacity slots some =
    let whole = div-add-mod' (capacity + slots - 1) slots in
    let rest = mod_below (capacity + slots - 1) slots some in
    omega (arith, whole, rest, some)

one_each : (n size : ℕ) → 0 < size → size ≤ n → 0 < n / size
one_each n size some fits = by (n / size) refl
  where
    by : (q : ℕ) → n / size ≡ q → 0 < q
    by zero e =
        let whole = div-add-mod' n size in
        let rest = mod_below n size some in
        let none : n / size * size ≡ 0 * size = ap (λ (q : ℕ). q * size) e in
        absurd (omega (arith, whole, rest, none, fits))
    by (suc q) e = omega arith

-- the first sequential type
record HasFirst (ci capacity : ℕ) (types : List SegDef) : Type 0 where
  def : SegDef
  at : ℕ
  is_at : position_or_len (λ (d : SegDef). d.sequential) types ≡ at
  there : slice_get types at ≡ Some def
  sequential : def.sequential ≡ true
  intervals : sequential_intervals ci types capacity
      ≡ (capacity + (ci - 32) / (16 + def.length) - 1) / ((ci - 32) / (16 + def.length))

one_more : {m n : ℕ} → m ≡ n → 1 + m ≡ suc n
one_more e = omega (arith, e)

has_first : (ci capacity : ℕ) (types : List SegDef) → has_sequential types ≡ true → HasFirst ci capacity types
has_first ci capacity [] e = absurd (true_is_not_false (sym e))
has_first ci capacity (d ∷ ds) e = elim (cases_Bool d.sequential) [
  | inl is ↦ record {
    def = d;
    at = 0;
    is_at = rw is refl;
    there = refl;
    sequential = is;
    intervals = rw is refl;
  }
  | inr other ↦
      let h = has_first ci capacity ds (rw other at e) in
      record {
        def = h.def;
        at = suc h.at;
        is_at = rw other (one_more h.is_at);
        there = h.there;
        sequential = h.sequential;
        intervals = rw other h.intervals;
      }
]

each_fits : (ci : ℕ) (types rest : List SegDef) (place k : ℕ) (def : SegDef) → EachFits ci types place rest
    → slice_get rest k ≡ Some def → stored_length types (place + k) def ≤ ci - 32
each_fits ci types [] place k def all e = absurd (none-some def e)
each_fits ci types (d ∷ rest) place zero def all e =
    let number : place ≡ place + 0 = omega arith in
    subst (λ (n : ℕ). stored_length types n def ≤ ci - 32) number
    (subst (λ (x : SegDef). stored_length types place x ≤ ci - 32) (same_Some d def e) all.0)
each_fits ci types (d ∷ rest) place (suc k) def all e =
    let number : place + 1 + k ≡ place + suc k = omega arith in
    subst (λ (n : ℕ). stored_length types n def ≤ ci - 32) number
    (each_fits ci types rest (place + 1) k def all.1 e)

-- a sequential segment has its serials in front
stored_serials : (types : List SegDef) (place : ℕ) (def : SegDef) → def.sequential ≡ true
    → stored_length types place def ≡ 16 + def.length
stored_serials types place def e = rw e refl

first_length : (ci capacity : ℕ) (types : List SegDef) (h : HasFirst ci capacity types)
    → sequential_length types ≡ h.def.length
first_length ci capacity types h =
    let low = slice_get_within types h.at h.def h.there in
    let at = h.is_at in
    let less : nat_lt (position_or_len (λ (d : SegDef). d.sequential) types) (length types) ≡ true =
    grind (arith, nat_tests, low, at) in
    let type : sequential_type types ≡ Some h.at = rw less (ap (λ (n : ℕ). Some n) at) in
    rw type (rw h.there refl)

slots_held : (def : DedbDef) (area : Area) → EachFits def.ci def.segments 0 def.segments
    → has_sequential def.segments ≡ true → 0 < area.def.capacity → HoldsCapacity (part_of (place_of def area))
unfolding slots_each
slots_held def area fits has some =
    let h = has_first def.ci area.def.capacity def.segments has in
    let long = first_length def.ci area.def.capacity def.segments h in
    let stored = each_fits def.ci def.segments def.segments 0 h.at h.def fits h.there in
    let serials = stored_serials def.segments (0 + h.at) h.def h.sequential in
    let each : 0 < (def.ci - 32) / (16 + h.def.length) =
    one_each (def.ci - 32) (16 + h.def.length) (omega arith) (omega (arith, stored, serials)) in
    let all : area.def.capacity
    ≤ sequential_intervals def.ci def.segments area.def.capacity * ((def.ci - 32) / (16 + h.def.length)) =
    subst (λ (n : ℕ). area.def.capacity ≤ n * ((def.ci - 32) / (16 + h.def.length))) (sym h.intervals)
    (held area.def.capacity ((def.ci - 32) / (16 + h.def.length)) each) in
    record {
      some = omega (arith, some);
      fits = subst (λ (n : ℕ). area.def.capacity
          ≤ sequential_intervals def.ci def.segments area.def.capacity * ((def.ci - 32) / (16 + n))) (sym long) all;
    }

-- ---- one area

pub size_of : (n : ℕ) → Contains (512 ∷ 1024 ∷ 2048 ∷ 4096 ∷ []) n → IsTrue (is_size n)
size_of n c = elim (contains_cases 512 (1024 ∷ 2048 ∷ 4096 ∷ []) n c) [
  | inl e ↦ subst (λ (k : ℕ). IsTrue (is_size k)) e refl
  | inr c2 ↦ elim (contains_cases 1024 (2048 ∷ 4096 ∷ []) n c2) [
    | inl e ↦ subst (λ (k : ℕ). IsTrue (is_size k)) e refl
    | inr c3 ↦ elim (contains_cases 2048 (4096 ∷ []) n c3) [
      | inl e ↦ subst (λ (k : ℕ). IsTrue (is_size k)) e refl
      | inr c4 ↦ elim (contains_cases 4096 [] n c4) [
        | inl e ↦ subst (λ (k : ℕ). IsTrue (is_size k)) e refl
        | inr none ↦ absurd (contains_nothing n none)
      ]
    ]
  ]
]

pub has_type : (b : Bool) (capacity : ℕ) → HasCapacity b capacity → 0 < capacity → b ≡ true
has_type true capacity has some = refl
has_type false capacity has some = absurd (omega (arith, has, some))

pub is_place : (def : DedbDef) (area : Area) → IsDedbDef def → IsAreaDef def.segments area.def
    → IsPlace (place_of def area)
is_place def area good its = record {
  size = size_of def.ci good.size;
  base = (let b = its.base.0 in omega (arith, b));
  types = record {
    some = (let t = good.types.0 in omega (arith, t));
    few = good.types.1;
    places = good.places;
    fits = good.fits;
  };
  sequential = λ some. has_type (has_sequential def.segments) area.def.capacity its.capacity some;
  slots = λ some. slots_held def area good.fits
      (has_type (has_sequential def.segments) area.def.capacity its.capacity some) some;
}

-- ---- all of them

own_places : (def : DedbDef) → IsDedbDef def → (rest : List Place) → ArePlaces rest → (dedb number before : ℕ)
    (areas : List AreaDef) → AllByRecursion (IsAreaDef def.segments) areas
    → ArePlaces (map (place_of def) (areas_from dedb number before areas) ++ rest)
own_places def good rest all dedb number before [] each = all
own_places def good rest all dedb number before (a ∷ areas) each = (
  is_place def (record { dedb = dedb; number = number; first_anchor = before; def = a }) good each.0,
  own_places def good rest all dedb (number + 1) (before + anchors_in a) areas each.1,
)

all_places : (dedb : ℕ) (defs : List DedbDef) → AllByRecursion IsDedbDef defs → ArePlaces (places_from dedb defs)
all_places dedb [] all = tt
all_places dedb (d ∷ ds) all =
    own_places d all.0 (places_from (dedb + 1) ds) (all_places (dedb + 1) ds all.1) dedb 0 0 d.areas all.0.each_area

pub places_good : (defs : Defs) → AreDefs defs → ArePlaces (places_of defs)
places_good defs good = all_places 0 defs.dedbs good.each_dedb
