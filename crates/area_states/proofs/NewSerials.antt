-- A serial is given: its slot is filled, and the end moves.
use Rattle.std.proofs.Common.{◌≡◌, ◌⊎◌, inl, inr, ℕ, ◌+◌, ◌-◌, ◌^◌, ◌<◌, ◌≤◌, List, [], length, drop, get_or, All, sym, ◌∙◌, ap, subst, arith}
use Rattle.std.specs.Prelude.{slice_index}
use Rattle.std.proofs.lemmas.Bool.{cases_lt}
use Rattle.seq_dependents.specs.declared.part.Part.{Part}
use Rattle.seq_dependents.specs.Control.{IsKept, begin_in, end_in, begin_of, end_of}
use Rattle.seq_dependents.specs.Puts.{Appends, IsTooMany, linked_to}
use Rattle.seq_dependents.specs.Slots.{HasSerial, IsHeld, slot_of}
use Rattle.seq_dependents.proofs.LawLemmas.{appended_held, kept_held}
use Rattle.area_states.specs.declared.place.Place.{Place}
use Rattle.area_states.specs.Places.{part_of, IsPlace}
use Rattle.area_states.specs.States.{AreaState, HasState, IsWholePart}
use Rattle.area_states.proofs.Frames.{PartAlone, formed_on, kind_bounds, kind_outside, roots_on}
use Rattle.area_states.proofs.Lists.{GoesOnHolding, all_read_on}

-- segments are put behind the serials that are kept, for which there is room; the first is linked to a serial before
pub record Gives (part : Part) (old new : List (List ℕ)) (previous : ℕ) (segments : List (List ℕ)) : Type 0 where
  pub appends : Appends part old new previous segments
  pub whole : All (λ segment. length segment ≡ part.segment) segments
  pub earlier : previous < end_of old
  pub room : ¬ IsTooMany part.capacity (begin_of old) (end_of old) (length segments)

put_begin : (part : Part) (old new : List (List ℕ)) (previous : ℕ) (segments : List (List ℕ))
    → Appends part old new previous segments → begin_of new ≡ begin_of old
unfolding begin_in
put_begin part old new previous segments a = ap (λ l. slice_index l 0) a.control.is_ends

put_end : (part : Part) (old new : List (List ℕ)) (previous : ℕ) (segments : List (List ℕ))
    → Appends part old new previous segments → end_of new ≡ end_of old + length segments
unfolding end_in
put_end part old new previous segments a = ap (λ l. slice_index l 1) a.control.is_ends

module _ (part : Part) (old new : List (List ℕ)) (previous : ℕ) (segments : List (List ℕ))
    (it : Gives part old new previous segments) where
  begins : begin_of new ≡ begin_of old
  begins = put_begin part old new previous segments it.appends

  pub ends : end_of new ≡ end_of old + length segments
  ends = put_end part old new previous segments it.appends

  -- a new serial's slot holds it
  pub given_held : (k : ℕ) → k < length segments
      → IsHeld part new (end_of old + k) (linked_to (end_of old) previous k) (get_or segments k [])
  given_held k l = appended_held part old new previous segments k it.appends it.whole it.earlier l

  held_serial : (serial before : ℕ) (segment : List ℕ) → IsHeld part new serial before segment
      → HasSerial (slot_of part new serial) serial
  held_serial serial before segment h = record {
    is_serial = h.holds.is_serial;
    is_earlier = let e = h.holds.is_previous in let l = h.is_earlier in omega (arith, e, l);
  }

  -- every serial that is kept then was kept, or is new
  kept_or_new : (serial : ℕ) → IsKept new serial → IsKept old serial
      ⊎ ((end_of old ≤ serial) × (serial < end_of old + length segments))
  kept_or_new serial k =
      let b = begins in
      let e = ends in
      let from = k.from_begin in
      let before = k.before_end in
      elim (cases_lt serial (end_of old)) as (λ _. IsKept old serial
      ⊎ ((end_of old ≤ serial) × (serial < end_of old + length segments))) [
        | inl l ↦ inl (record { from_begin = omega (arith, b, from); before_end = l })
        | inr l ↦ inr (l, omega (arith, e, before))
      ]

  has_serial : ((serial : ℕ) → IsKept old serial → HasSerial (slot_of part old serial) serial) → (serial : ℕ)
      → IsKept new serial → HasSerial (slot_of part new serial) serial
  has_serial was serial k = elim (kept_or_new serial k) as (λ _. HasSerial (slot_of part new serial) serial) [
    | inl before ↦ rw (it.appends.kept serial before) (was serial before)
    | inr both ↦
        let low = both.0 in
        let high = both.1 in
        let n : ℕ = serial - end_of old in
        let e : end_of old + n ≡ serial = omega (arith, low) in
        let h = given_held n (omega (arith, low, high)) in
        subst (λ s. HasSerial (slot_of part new s) s) e
        (held_serial (end_of old + n) (linked_to (end_of old) previous n) (get_or segments n []) h)
  ]

  pub gives_holding : GoesOnHolding part old new
  gives_holding = record {
    begin = begins;
    end = let e = ends in omega (arith, e);
    held = λ serial before segment k h.
        kept_held part old new previous segments serial before segment it.appends k h;
  }

  room_left : (end_of old - begin_of old + length segments ≤ part.capacity)
      × (end_of old + length segments ≤ 2 ^ 62)
  room_left =
      let few : end_of old - begin_of old + length segments ≤ part.capacity =
      elim (cases_lt part.capacity (end_of old - begin_of old + length segments)) as
      (λ _. end_of old - begin_of old + length segments ≤ part.capacity) [
        | inl l ↦ absurd (it.room (inl l))
        | inr l ↦ l
      ] in
      let low : end_of old + length segments ≤ 2 ^ 62 =
      elim (cases_lt (2 ^ 62) (end_of old + length segments)) as (λ _. end_of old + length segments ≤ 2 ^ 62) [
        | inl l ↦ absurd (it.room (inr l))
        | inr l ↦ l
      ] in
      (few, low)

  pub gives_whole : IsWholePart part old → IsWholePart part new
  gives_whole w =
      let was = w.control.is_control.are_ends in
      let some = was.some in
      let ordered = was.ordered in
      let b = begins in
      let e = ends in
      let left = room_left in
      let few = left.0 in
      let low = left.1 in
      record {
        control = record {
          is_control = record {
            below = rw it.appends.same_number w.control.is_control.below;
            is_interval = it.appends.is_control;
            is_kind = it.appends.control.head 0 (omega arith) (omega arith) ∙ w.control.is_control.is_kind;
            are_ends = record {
              some = omega (arith, b, some);
              ordered = omega (arith, b, e, ordered);
              bounded = rw e low;
            };
          };
          counted = omega (arith, b, e, ordered, few);
        };
        in_place = λ ci x y. it.appends.stays_sequential ci (w.in_place ci x y);
        serials = has_serial w.serials;
      }

-- control's end and the sequential intervals are all that changes
pub gives_alone : (place : Place) (old new : List (List ℕ)) (previous : ℕ) (segments : List (List ℕ))
    → IsWholePart (part_of place) old → Appends (part_of place) old new previous segments
    → PartAlone place.shape old new
gives_alone place old new previous segments w a = record {
  control = a.is_control;
  head = a.control.head;
  numbers = ap (λ l. drop 2 l) a.control.is_ends;
  in_place = λ ci four.
      let bounds = kind_bounds place.shape ci four in
      let now = a.stays_sequential ci (w.in_place ci bounds.0 bounds.1) in
      record { is_interval = now.is_interval; is_kind = now.is_kind ∙ sym four };
  others = λ ci z four. a.others ci z (kind_outside place.shape ci z four);
  same_number = a.same_number;
}

-- with the end that far on
abbrev pub ended_at : ℕ → AreaState → AreaState
ended_at end state = record state { end = end }

pub given_state : (place : Place) (old new : List (List ℕ)) (previous : ℕ) (segments : List (List ℕ))
    (state : AreaState) → IsPlace place → HasState place old state → Gives (part_of place) old new previous segments
    → HasState place new (ended_at (state.end + length segments) state)
given_state place old new previous segments state is was it =
    let alone = gives_alone place old new previous segments was.whole it.appends in
    let holding = gives_holding (part_of place) old new previous segments it in
    record {
      formed = formed_on place.shape old new alone was.formed.in_order is.base place.segments was.formed;
      whole = gives_whole (part_of place) old new previous segments it was.whole;
      begin = holding.begin ∙ was.begin;
      end = ends (part_of place) old new previous segments it ∙ ap (λ e. e + length segments) was.end;
      anchors = λ anchor below.
          let mine = was.anchors anchor below in
          record {
            kept = mine.kept;
            has = roots_on place.shape old new alone was.formed.in_order is.base place.segments anchor mine.kept below
                mine.has;
            lists = all_read_on place old new holding mine.kept (state.roots anchor) mine.lists;
          };
    }
