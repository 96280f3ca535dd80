use Rattle.std.proofs.Common.{◌≡◌, inl, inr, ◌+◌, ◌<◌, ◌^◌, ◌∙◌, false, true, length, rules, subst, arith}
use Rattle.std.specs.Prelude.{Some, slice_get}
use Rattle.std.proofs.lemmas.Bool.{cases_Bool}
use Rattle.area_states.specs.Places.{has_anchor}
use Rattle.dedb_area.proofs.AnchorLemmas.{area_from, found_here, next_area}
use Rattle.dedb_area.proofs.anchors.area_of.Goals as goal
use Rattle.area_laws.proofs.FullLemmas.{at_set}
use Rattle.plain_laws.proofs.Places.{stands_at}

pub areas-init : goal.areas-init
areas-init c = λ set has.
    let from = (area_from c.args.places.now c.args.dedb c.args.anchor set has).0 in
    omega (arith, from)

pub bounds-places-from : goal.bounds-places-from
bounds-places-from c =
    let has = c.requires.area in
    let within = area_from c.args.places.now c.args.dedb c.args.anchor has.0 has.1 in
    let left = c.areas.invariant has.0 has.1 in
    omega (arith, within.0, within.1, left, c.from.ensures)

pub overflow_add-number : goal.overflow_add-number
overflow_add-number c =
    let has = c.requires.area in
    let within = area_from c.args.places.now c.args.dedb c.args.anchor has.0 has.1 in
    let left = c.areas.invariant has.0 has.1 in
    let few : c.areas.number + 1 < 2 ^ 16 = omega (arith, within.0, within.1, left, c.requires.few) in
    search rules

pub overflow_add-result : goal.overflow_add-result
overflow_add-result c =
    let has = c.requires.area in
    let within = area_from c.args.places.now c.args.dedb c.args.anchor has.0 has.1 in
    let left = c.areas.invariant has.0 has.1 in
    let few : 3 + c.areas.number < 2 ^ 16 = omega (arith, within.0, within.1, left, c.requires.few) in
    search rules

pub areas-smaller : goal.areas-smaller
areas-smaller c =
    let has = c.requires.area in
    let within = area_from c.args.places.now c.args.dedb c.args.anchor has.0 has.1 in
    let left = c.areas.invariant has.0 has.1 in
    omega (arith, within.0, within.1, left)

pub areas-preserved : goal.areas-preserved
areas-preserved c =
    let places = c.args.places.now in
    let place = c.index-places-from.result in
    let has = c.requires.area in
    let within = area_from places c.args.dedb c.args.anchor has.0 has.1 in
    let left = c.areas.invariant has.0 has.1 in
    let below : c.from.result < length places = omega (arith, within.0, within.1, left, c.from.ensures) in
    let here = subst (λ k. slice_get places k ≡ Some place) c.from.ensures
    (stands_at places c.from.result place below c.index-places-from.is) in
    let none : has_anchor place c.args.dedb c.args.anchor ≡ false =
    elim (cases_Bool (has_anchor place c.args.dedb c.args.anchor)) [
      | inl it ↦ (let r : c.has_anchor.result ≡ true = c.has_anchor.ensures ∙ it in cc)
      | inr other ↦ other
    ] in
    next_area places c.args.dedb c.args.anchor c.areas.number place here none c.areas.invariant

pub returns : goal.returns
returns c =
    let places = c.args.places.now in
    let place = c.index-places-from.result in
    let has = c.requires.area in
    let within = area_from places c.args.dedb c.args.anchor has.0 has.1 in
    let left = c.areas.invariant has.0 has.1 in
    let below : c.from.result < length places = omega (arith, within.0, within.1, left, c.from.ensures) in
    let here = subst (λ k. slice_get places k ≡ Some place) c.from.ensures
    (stands_at places c.from.result place below c.index-places-from.is) in
    let here_is : has_anchor place c.args.dedb c.args.anchor ≡ true =
    elim (cases_Bool (has_anchor place c.args.dedb c.args.anchor)) [
      | inl it ↦ it
      | inr none ↦ (let r : c.has_anchor.result ≡ false = c.has_anchor.ensures ∙ none in cc)
    ] in
    found_here places c.args.dedb c.args.anchor c.areas.number place (at_set places c.areas.number place here) here_is
