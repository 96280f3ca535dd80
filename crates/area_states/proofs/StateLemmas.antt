-- The state of an area: that there is one, and what calls make of it.
use Rattle.std.proofs.Common.{◌≡◌, inl, inr, ℕ, ◌<◌, ◌≤◌, true, false, List, length, sym, ◌∙◌, ap, subst, arith}
use Rattle.std.specs.Prelude.{◌==◌}
use Rattle.std.specs.List.{AllZip, AllByRecursion}
use Rattle.std.proofs.lemmas.Bool.{cases_eq}
use Rattle.ci_space.specs.Interval.{IsInterval, kind_of}
use Rattle.ci_overflow.specs.Places.{first_sequential, first_independent}
use Rattle.ci_overflow.specs.Lists.{bytes_at, IsInPlace}
use Rattle.ci_overflow.specs.Rooms.{KeepsEnds}
use Rattle.fp_model.specs.declared.database.Root.{Root}
use Rattle.root_anchor.specs.Chains.{anchor_count}
use Rattle.root_anchor.specs.Formed.{IsFormed, HasRoots}
use Rattle.root_anchor.specs.Stored.{OthersKeep, KeepsSequential}
use Rattle.root_anchor.proofs.OneChain.{one_chain}
use Rattle.seq_dependents.specs.declared.part.Part.{Part}
use Rattle.seq_dependents.specs.Faults.{IsAtFault, in_control, misplaced, other_serial}
use Rattle.seq_dependents.specs.Control.{AreEnds, IsKept, begin_in, end_in, begin_of, end_of}
use Rattle.seq_dependents.specs.Slots.{HoldsCapacity, IsHeld, IsSequential, interval_of, slot_in, slot_of}
use Rattle.seq_dependents.proofs.Fillings.{interval_behind, interval_before}
use Rattle.area_states.specs.declared.place.Place.{Place}
use Rattle.area_states.specs.Places.{part_of, IsPlace}
use Rattle.area_states.specs.States.{AreaState, HasAnchor, HasState, IsReadAs, IsWholePart, SameState}
use Rattle.area_states.specs.Changes.{HasListOf, with_roots_at}
use Rattle.area_states.specs.inside.Keys.{IsKeptAs}
use Rattle.area_states.proofs.Frames.{kind_within}
use Rattle.area_states.proofs.Lists.{GoesOnHolding, all_read_on}
use Rattle.area_states.proofs.Readings.{one_reading, stored_lists}
use Rattle.plain_laws.proofs.Numbers.{other_number, same_number}

-- ---- one state

pub one_anchor : (place : Place) (area : List (List ℕ)) (anchor : ℕ) (xs ys : List Root)
    → HasAnchor place area anchor xs → HasAnchor place area anchor ys → xs ≡ ys
one_anchor place area anchor xs ys x y =
    let same : x.kept ≡ y.kept = (one_chain x.has.is_chain y.has.is_chain).0 in
    one_reading place area y.kept xs ys (subst (λ k. AllZip (IsReadAs place area) k xs) same x.lists) y.lists

-- an area has one state
pub has_one_state : (place : Place) (area : List (List ℕ)) (a b : AreaState) → HasState place area a
    → HasState place area b → SameState place a b
has_one_state place area a b x y = record {
  roots = λ anchor below. one_anchor place area anchor (a.roots anchor) (b.roots anchor) (x.anchors anchor below)
      (y.anchors anchor below);
  begin = sym x.begin ∙ y.begin;
  end = sym x.end ∙ y.end;
}

-- and stands for each that is the same
pub same_state : (place : Place) (area : List (List ℕ)) (a b : AreaState) → HasState place area a → SameState place a b
    → HasState place area b
same_state place area a b x same = record {
  formed = x.formed;
  whole = x.whole;
  begin = x.begin ∙ same.begin;
  end = x.end ∙ same.end;
  anchors = λ anchor below. subst (HasAnchor place area anchor) (same.roots anchor below) (x.anchors anchor below);
}

-- ---- the sequential part

-- the two ends of a whole part
pub whole_ends : (part : Part) (area : List (List ℕ)) → IsWholePart part area → AreEnds (begin_of area) (end_of area)
whole_ends part area w = w.control.is_control.are_ends

-- where a serial is kept there are slots
pub kept_slots : (place : Place) (area : List (List ℕ)) (serial : ℕ) → IsPlace place
    → IsWholePart (part_of place) area → IsKept area serial → HoldsCapacity (part_of place)
kept_slots place area serial is w k =
    let count = w.control.counted in
    let from = k.from_begin in
    let before = k.before_end in
    is.slots (omega (arith, count, from, before))

kept_begin : (old new : List (List ℕ)) → KeepsEnds (bytes_at old 0) (bytes_at new 0) → begin_of new ≡ begin_of old
unfolding begin_in
kept_begin old new e = e.begin

kept_end : (old new : List (List ℕ)) → KeepsEnds (bytes_at old 0) (bytes_at new 0) → end_of new ≡ end_of old
unfolding end_in
kept_end old new e = e.end

-- ---- anchors that are stored

-- What a store of an anchor leaves of the sequential part.
module _ (place : Place) (old new : List (List ℕ)) (is : IsPlace place) (w : IsWholePart (part_of place) old)
    (formed : IsFormed place.shape place.segments new) (keeps : KeepsSequential place.shape old new) where
  begins : begin_of new ≡ begin_of old
  begins = kept_begin old new keeps.ends

  pub stored_end : end_of new ≡ end_of old
  stored_end = kept_end old new keeps.ends

  long : first_independent place.shape ≤ length new
  long = let e = formed.in_order.whole in omega (arith, e)

  slot_stays : (ci : ℕ) → first_sequential place.shape ≤ ci → ci < first_independent place.shape
      → bytes_at new ci ≡ bytes_at old ci
  slot_stays ci a b = keeps.intervals ci (kind_within place.shape ci (λ e. omega (arith, a, e)) a b)

  sequential_stays : (ci : ℕ) → first_sequential place.shape ≤ ci → ci < first_independent place.shape
      → IsSequential (part_of place) old ci → IsSequential (part_of place) new ci
  sequential_stays ci a b s =
      let same = slot_stays ci a b in
      let l = long in
      record {
        below = omega (arith, b, l);
        is_interval = subst IsInterval (sym same) s.is_interval;
        is_kind = ap kind_of same ∙ s.is_kind;
        is_size = ap length same ∙ s.is_size;
      }

  kept_before : (serial : ℕ) → IsKept new serial → IsKept old serial
  kept_before serial k = record {
    from_begin = let b = begins in let f = k.from_begin in omega (arith, b, f);
    before_end = let e = stored_end in let f = k.before_end in omega (arith, e, f);
  }

  same_slot : (serial : ℕ) → IsKept old serial → slot_of (part_of place) new serial ≡ slot_of (part_of place) old serial
  same_slot serial k =
      let slots = kept_slots place old serial is w k in
      ap (λ (b : List ℕ). slot_in (part_of place) b serial)
      (slot_stays (interval_of (part_of place) serial) (interval_behind (part_of place) serial)
      (interval_before (part_of place) serial slots))

  held_stays : (serial previous : ℕ) (segment : List ℕ) → IsKept old serial
      → IsHeld (part_of place) old serial previous segment → IsHeld (part_of place) new serial previous segment
  held_stays serial previous segment k h =
      let slots = kept_slots place old serial is w k in
      record {
        in_place = sequential_stays (interval_of (part_of place) serial) (interval_behind (part_of place) serial)
            (interval_before (part_of place) serial slots) h.in_place;
        holds = rw (same_slot serial k) h.holds;
        is_earlier = h.is_earlier;
        is_whole = h.is_whole;
      }

  pub store_holds : GoesOnHolding (part_of place) old new
  store_holds = record { begin = begins; end = (let e = stored_end in omega (arith, e)); held = held_stays }

  pub store_whole : IsWholePart (part_of place) new
  store_whole =
      let l = long in
      let first : IsInPlace place.shape new 0 = formed.in_order.in_place 0 (omega (arith, l)) in
      let was = whole_ends (part_of place) old w in
      let counted = w.control.counted in
      let b = begins in
      let e = stored_end in
      record {
        control = record {
          is_control = record {
            below = omega (arith, l);
            is_interval = first.is_interval;
            is_kind = first.is_kind;
            are_ends = rw (b, e) was;
          };
          counted = rw (b, e) counted;
        };
        in_place = λ ci x y. sequential_stays ci x y (w.in_place ci x y);
        serials = λ serial k.
            let before = kept_before serial k in
            rw (same_slot serial before) (w.serials serial before);
      }

-- an anchor is given other roots
pub stored : (place : Place) (old new : List (List ℕ)) (anchor : ℕ) (roots kept : List Root)
    (state : AreaState) → IsPlace place → anchor < anchor_count place.shape → HasState place old state
    → AllByRecursion (HasListOf (state.roots anchor)) roots
    → AllZip (IsKeptAs (begin_of old)) roots kept → HasRoots place.shape place.segments new anchor kept
    → OthersKeep place.shape place.segments old new anchor → KeepsSequential place.shape old new
    → IsFormed place.shape place.segments new → HasState place new (with_roots_at anchor roots state)
stored place old new anchor roots kept state is below was own are here others keeps formed =
    let holds = store_holds place old new is was.whole formed keeps in
    let bounds = whole_ends (part_of place) old was.whole in
    let mine = was.anchors anchor below in
    record {
      formed = formed;
      whole = store_whole place old new is was.whole formed keeps;
      begin = holds.begin ∙ was.begin;
      end = stored_end place old new is was.whole formed keeps ∙ was.end;
      anchors = λ a lt. elim (cases_eq a anchor) [
        | inl e ↦
            let here_is : (a == anchor) ≡ true = same_number a anchor e in
            let this : HasAnchor place new anchor roots = record {
              kept = kept;
              has = here;
              lists = stored_lists place old new mine.kept (state.roots anchor) roots kept bounds.some bounds.ordered
                  holds mine.lists own are;
            } in
            rw here_is (subst (λ k. HasAnchor place new k roots) (sym e) this)
        | inr ne ↦
            let other : (a == anchor) ≡ false = other_number a anchor ne in
            let theirs = was.anchors a lt in
            let stays : HasAnchor place new a (state.roots a) = record {
              kept = theirs.kept;
              has = record {
                elements = theirs.has.elements;
                is_chain = others.keep a theirs.kept theirs.has.elements lt ne theirs.has.is_chain;
              };
              lists = all_read_on place old new holds theirs.kept (state.roots a) theirs.lists;
            } in
            rw other stays
      ];
    }

-- nothing of a whole part is at fault
pub not_at_fault : (part : Part) (area : List (List ℕ)) (ci : ℕ) → IsWholePart part area → IsAtFault part area ci → ⊥
not_at_fault part area ci w (in_control first none) = none w.control
not_at_fault part area ci w (misplaced m) = m.missing (w.in_place ci m.behind m.before)
not_at_fault part area ci w (other_serial serial kept here none) = none (w.serials serial kept)
