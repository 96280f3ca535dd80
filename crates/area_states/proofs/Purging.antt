-- The begin of an area's sequential part moves.
use Rattle.std.proofs.Common.{◌≡◌, ◌≢◌, inl, inr, ℕ, ◌+◌, ◌<◌, ◌≤◌, false, List, [], ◌∷◌, length, drop, map, refl, sym, ◌∙◌, ap, subst, arith}
use Rattle.std.specs.Prelude.{slice_index, filter, min, nat_le}
use Rattle.std.specs.List.{AllZip}
use Rattle.std.proofs.lemmas.Bool.{cases_Bool}
use Rattle.std.proofs.lemmas.Bool.Decides.{nat_tests}
use Rattle.ci_space.specs.Interval.{IsInterval, kind_of}
use Rattle.fp_model.specs.declared.database.Root.{Root}
use Rattle.fp_model.specs.declared.database.SeqItem.{SeqItem}
use Rattle.fp_model.specs.Commit.{kept_from}
use Rattle.seq_dependents.specs.declared.part.Part.{Part}
use Rattle.seq_dependents.specs.Control.{IsKept, PutsEnds, begin_in, end_in, begin_of, end_of}
use Rattle.seq_dependents.specs.Slots.{IsHeld, IsSequential, interval_of, slot_in, slot_of}
use Rattle.seq_dependents.specs.Down.{IsItem, IsDown}
use Rattle.seq_dependents.proofs.Fillings.{interval_behind}
use Rattle.area_states.specs.declared.place.Place.{Place}
use Rattle.area_states.specs.Places.{part_of, IsPlace}
use Rattle.area_states.specs.States.{AreaState, HasState, IsReadAs, IsWholePart, newest_serial}
use Rattle.area_states.specs.Changes.{begun_at, purged}
use Rattle.area_states.proofs.Frames.{PartAlone, formed_on, kind_bounds, roots_on}

put_begin : (old new : List (List ℕ)) (begin end : ℕ) → PutsEnds old new begin end → begin_of new ≡ begin
unfolding begin_in
put_begin old new begin end p = ap (λ l. slice_index l 0) p.control.is_ends

put_end : (old new : List (List ℕ)) (begin end : ℕ) → PutsEnds old new begin end → end_of new ≡ end
unfolding end_in
put_end old new begin end p = ap (λ l. slice_index l 1) p.control.is_ends

-- at least the old begin, and at most the end
pub record MovesBegin (old new : List (List ℕ)) (begin : ℕ) : Type 0 where
  pub puts : PutsEnds old new begin (end_of old)
  pub from_begin : begin_of old ≤ begin
  pub to_end : begin ≤ end_of old

module _ (part : Part) (old new : List (List ℕ)) (begin : ℕ) (it : MovesBegin old new begin) where
  begins : begin_of new ≡ begin
  begins = put_begin old new begin (end_of old) it.puts

  ends : end_of new ≡ end_of old
  ends = put_end old new begin (end_of old) it.puts

  kept_before : (serial : ℕ) → IsKept new serial → IsKept old serial
  kept_before serial k = record {
    from_begin = let b = begins in let f = k.from_begin in let l = it.from_begin in omega (arith, b, f, l);
    before_end = let e = ends in let f = k.before_end in omega (arith, e, f);
  }

  kept_on : (serial : ℕ) → begin ≤ serial → IsKept old serial → IsKept new serial
  kept_on serial l k = record {
    from_begin = let b = begins in omega (arith, b, l);
    before_end = let e = ends in let f = k.before_end in omega (arith, e, f);
  }

  slot_place : (serial : ℕ) → interval_of part serial ≢ 0
  slot_place serial e = let b = interval_behind part serial in omega (arith, b, e)

  same_slot : (serial : ℕ) → slot_of part new serial ≡ slot_of part old serial
  same_slot serial = ap (λ (b : List ℕ). slot_in part b serial)
      (it.puts.others (interval_of part serial) (slot_place serial))

  pub sequential_stays : (ci : ℕ) → ci ≢ 0 → IsSequential part old ci → IsSequential part new ci
  sequential_stays ci z s =
      let same = it.puts.others ci z in
      record {
        below = rw it.puts.same_number s.below;
        is_interval = subst IsInterval (sym same) s.is_interval;
        is_kind = ap kind_of same ∙ s.is_kind;
        is_size = ap length same ∙ s.is_size;
      }

  held_stays : (serial previous : ℕ) (segment : List ℕ) → IsHeld part old serial previous segment
      → IsHeld part new serial previous segment
  held_stays serial previous segment h = record {
    in_place = sequential_stays (interval_of part serial) (slot_place serial) h.in_place;
    holds = rw (same_slot serial) h.holds;
    is_earlier = h.is_earlier;
    is_whole = h.is_whole;
  }

  -- below the new begin nothing is left of a list,
  none_left : (serial : ℕ) (items : List SeqItem) → serial < begin → IsDown part old serial items
      → filter (λ item. nat_le begin item.serial) items ≡ []
  none_left serial [] low down = refl
  none_left serial (item ∷ items) low down =
      let e = down.1.is_serial in
      let out : nat_le begin item.serial ≡ false = grind (arith, nat_tests, e, low) in
      let earlier = down.1.is_held.is_earlier in
      rw out (none_left down.0 items (omega (arith, earlier, low)) down.2)

  -- and what is left of it is read
  pub down_from : (serial : ℕ) (items : List SeqItem) → IsDown part old serial items
      → IsDown part new serial (filter (λ item. nat_le begin item.serial) items)
  down_from serial [] down = λ k. down (kept_before serial k)
  down_from serial (item ∷ items) down = elim (cases_Bool (nat_le begin item.serial)) [
    | inl is ↦
        let e = down.1.is_serial in
        let l : begin ≤ serial = grind (arith, nat_tests, e, is) in
        let now : IsItem part new serial down.0 item = record {
          is_kept = kept_on serial l down.1.is_kept;
          is_serial = e;
          is_held = held_stays serial down.0 item.bytes down.1.is_held;
        } in
        rw is (down.0, now, down_from down.0 items down.2)
    | inr out ↦
        let e = down.1.is_serial in
        let l : serial < begin = grind (arith, nat_tests, e, out) in
        let earlier = down.1.is_held.is_earlier in
        let rest = none_left down.0 items (omega (arith, earlier, l)) down.2 in
        let gone : ¬ IsKept new serial = λ k. (let b = begins in let f = k.from_begin in omega (arith, b, f, l)) in
        rw (out, rest) gone
  ]

  pub whole_from : IsWholePart part old → IsWholePart part new
  whole_from w =
      let was = w.control.is_control.are_ends in
      let some = was.some in
      let bounded = was.bounded in
      let counted = w.control.counted in
      let b = begins in
      let e = ends in
      let low = it.from_begin in
      let high = it.to_end in
      record {
        control = record {
          is_control = record {
            below = rw it.puts.same_number w.control.is_control.below;
            is_interval = it.puts.is_interval;
            is_kind = it.puts.control.head 0 (omega arith) (omega arith) ∙ w.control.is_control.is_kind;
            are_ends = record {
              some = omega (arith, b, some, low);
              ordered = omega (arith, b, e, high);
              bounded = omega (arith, e, bounded);
            };
          };
          counted = omega (arith, b, e, low, counted);
        };
        in_place = λ ci x y. sequential_stays ci (λ z. omega (arith, x, z)) (w.in_place ci x y);
        serials = λ serial k. rw (same_slot serial) (w.serials serial (kept_before serial k));
      }

-- the roots with what is left of their lists
read_from : (place : Place) (old new : List (List ℕ)) (begin : ℕ) → MovesBegin old new begin → (kept root : Root)
    → IsReadAs place old kept root → IsReadAs place new kept (kept_from begin root)
read_from place old new begin it kept root r = record {
  bytes = r.bytes;
  children = r.children;
  list = down_from (part_of place) old new begin it (newest_serial kept.seqs) root.seqs r.list;
  before_end = let e = put_end old new begin (end_of old) it.puts in let b = r.before_end in omega (arith, e, b);
}

all_read_from : (place : Place) (old new : List (List ℕ)) (begin : ℕ) → MovesBegin old new begin
    → (kept roots : List Root) → AllZip (IsReadAs place old) kept roots
    → AllZip (IsReadAs place new) kept (map (kept_from begin) roots)
all_read_from place old new begin it [] [] all = tt
all_read_from place old new begin it [] (r ∷ roots) all = absurd all
all_read_from place old new begin it (k ∷ kept) [] all = absurd all
all_read_from place old new begin it (k ∷ kept) (r ∷ roots) all =
    (read_from place old new begin it k r all.0, all_read_from place old new begin it kept roots all.1)

-- control's begin is all that changes
pub begin_alone : (place : Place) (old new : List (List ℕ)) (begin : ℕ) (state : AreaState) → HasState place old state
    → MovesBegin old new begin → PartAlone place.shape old new
begin_alone place old new begin state was it =
    let long = was.formed.in_order.whole in
    record {
      control = it.puts.is_interval;
      head = it.puts.control.head;
      numbers = ap (λ l. drop 2 l) it.puts.control.is_ends;
      in_place = λ ci four.
          let bounds = kind_bounds place.shape ci four in
          let low = bounds.0 in
          let high = bounds.1 in
          let here = was.formed.in_order.in_place ci (omega (arith, high, long)) in
          let same = it.puts.others ci (λ z. omega (arith, low, z)) in
          record {
            is_interval = subst IsInterval (sym same) here.is_interval;
            is_kind = ap kind_of same ∙ here.is_kind;
          };
      others = λ ci z four. it.puts.others ci z;
      same_number = it.puts.same_number;
    }

pub begun_state : (place : Place) (old new : List (List ℕ)) (begin : ℕ) (state : AreaState) → IsPlace place
    → HasState place old state → MovesBegin old new begin → HasState place new (begun_at begin state)
begun_state place old new begin state is was it =
    let alone = begin_alone place old new begin state was it in
    record {
      formed = formed_on place.shape old new alone was.formed.in_order is.base place.segments was.formed;
      whole = whole_from (part_of place) old new begin it was.whole;
      begin = put_begin old new begin (end_of old) it.puts;
      end = put_end old new begin (end_of old) it.puts ∙ was.end;
      anchors = λ anchor below.
          let mine = was.anchors anchor below in
          record {
            kept = mine.kept;
            has = roots_on place.shape old new alone was.formed.in_order is.base place.segments anchor mine.kept below
                mine.has;
            lists = all_read_from place old new begin it mine.kept (state.roots anchor) mine.lists;
          };
    }

-- as a Purge moves it
pub purged_state : (place : Place) (old new : List (List ℕ)) (n : ℕ) (state : AreaState) → IsPlace place
    → HasState place old state → PutsEnds old new (min (end_of old) (begin_of old + n)) (end_of old)
    → HasState place new (purged n state)
purged_state place old new n state is was puts =
    let ordered = was.whole.control.is_control.are_ends.ordered in
    let low : begin_of old ≤ min (end_of old) (begin_of old + n) = omega (arith, ordered) in
    let high : min (end_of old) (begin_of old + n) ≤ end_of old = omega arith in
    let moves : MovesBegin old new (min (end_of old) (begin_of old + n)) =
    record { puts = puts; from_begin = low; to_end = high } in
    let done = begun_state place old new (min (end_of old) (begin_of old + n)) state is was moves in
    let same : min (end_of old) (begin_of old + n) ≡ min state.end (state.begin + n) =
    ap (λ e. min e (begin_of old + n)) was.end ∙ ap (λ b. min state.end (b + n)) was.begin in
    subst (λ b. HasState place new (begun_at b state)) same done
