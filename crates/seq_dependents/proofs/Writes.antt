-- A slot that is written.
use Rattle.std.proofs.Common.{◌≡◌, ◌≢◌, ℕ, ◌+◌, ◌-◌, ◌≤◌, ◌⊎◌, inl, inr, List, [], ◌++◌, length, drop, slice_range, slice_index, false, true, refl, sym, ap, ◌∙◌, arith}
use Rattle.std.proofs.Common.{append-nil}
use Rattle.std.proofs.lemmas.List.{drop_all, length-take}
use Rattle.ci_space.specs.Interval.{kind_of, IsInterval, Keeps, written}
use Rattle.ci_space.proofs.Chains.{range-keeps}
use Rattle.ci_space.proofs.Contents.{written-below, written-above, length-written, range-written}
use Rattle.ci_space.proofs.Tilings.{kind-keeps, head-keeps}
use Rattle.ci_overflow.specs.Lists.{bytes_at}
use Rattle.ci_overflow.specs.Rooms.{IsPut}
use Rattle.seq_dependents.specs.declared.part.Part.{Part}
use Rattle.seq_dependents.specs.Slots.{Holds, IsSequential, slot_number, slot_size, interval_of, place_of, slot_in, slot_of}
use Rattle.seq_dependents.specs.Puts.{PutsSlot}
use Rattle.seq_dependents.proofs.Placing.{slots_apart}
use Rattle.plain_laws.proofs.Numbers.{same_or_other}

-- a sequential interval whose head stays is one
sequential-keeps : (old new : List ℕ) → IsInterval old → kind_of old ≡ 4 → length new ≡ length old
    → Keeps old new 0 32 → IsInterval new
sequential-keeps old new i c l k =
    let e : kind_of new ≡ 4 = kind-keeps old new k ∙ c in
    let t = i.tiles in
    record {
      elements = i.elements;
      tiles = record {
        size = rw l t.size;
        head = head-keeps old new k t.head;
        tiled = λ b. let d = rw e at b in let f : false ≡ true = d in absurd (cc);
        is_merged = t.is_merged;
        untiled = λ b. t.untiled (rw c refl);
        control = λ b j x y. absurd (omega (arith, e, b));
      };
    }

-- what was written is read
written-slot : (old from : List ℕ) (at n : ℕ) → at + n ≤ length old → length from ≡ n
    → slice_range (written old at from) at (at + n) ≡ from
written-slot old from at n l e =
    let none : drop (length from) (slice_range old at (at + n)) ≡ [] =
    drop_all (length from) (slice_range old at (at + n))
    (omega (arith, e, length-take (at + n - at) (drop at old))) in
    range-written old from at n l (omega (arith, e)) ∙ ap (λ xs. from ++ xs) none ∙ append-nil from

-- what is apart from it stays
written-apart : (old from : List ℕ) (at n place : ℕ) → at + n ≤ length old → length from ≡ n
    → (place + n ≤ at) ⊎ (at + n ≤ place)
    → slice_range (written old at from) place (place + n) ≡ slice_range old place (place + n)
written-apart old from at n place l e d =
    range-keeps old (written old at from) place (place + n) (length-written old from at (omega (arith, e, l)))
    (λ k x y. elim d as (λ _. slice_index (written old at from) k ≡ slice_index old k) [
      | inl h ↦ written-below old from at k (omega (arith, l)) (omega (arith, h, y))
      | inr h ↦ written-above old from at k (omega (arith, l)) (omega (arith, e, h, x))
    ])

other_slot : (part : Part) (old new : List (List ℕ)) (serial ci at : ℕ) (given slot : List ℕ) (other : ℕ)
    → ci ≡ interval_of part serial → at ≡ place_of part serial → at + slot_size part ≤ length given
    → length slot ≡ slot_size part → given ≡ bytes_at old ci → bytes_at new ci ≡ written given at slot
    → ((c : ℕ) → c ≢ ci → bytes_at new c ≡ bytes_at old c) → slot_number part other ≢ slot_number part serial
    → slot_of part new other ≡ slot_of part old other
unfolding slot_in
other_slot part old new serial ci at given slot other ec ea fits es eg here others n =
    elim (same_or_other (interval_of part other) ci) as (λ _. slice_range (bytes_at new (interval_of part other))
    (place_of part other) (place_of part other + slot_size part) ≡ slice_range (bytes_at old (interval_of part other))
    (place_of part other) (place_of part other + slot_size part)) [
      | inl s ↦
          let apart = slots_apart part other serial n (s ∙ ec) in
          ap (λ (k : ℕ). slice_range (bytes_at new k) (place_of part other) (place_of part other + slot_size part)) s
          ∙ ap (λ (xs : List ℕ). slice_range xs (place_of part other) (place_of part other + slot_size part)) here
          ∙ written-apart given slot at (slot_size part) (place_of part other) fits es (rw ea apart)
          ∙ ap (λ (xs : List ℕ). slice_range xs (place_of part other) (place_of part other + slot_size part)) eg
          ∙ ap (λ (k : ℕ). slice_range (bytes_at old k) (place_of part other) (place_of part other + slot_size part))
          (sym s)
      | inr s ↦ ap (λ (xs : List ℕ). slice_range xs (place_of part other) (place_of part other + slot_size part))
          (others (interval_of part other) s)
    ]

pub slot_put : (part : Part) (old new : List (List ℕ)) (serial previous ci at : ℕ) (segment given slot next : List ℕ)
    → ci ≡ interval_of part serial → at ≡ place_of part serial → 32 ≤ at → at + slot_size part ≤ part.shape.ci
    → IsSequential part old ci → given ≡ bytes_at old ci → next ≡ written given at slot
    → Holds slot serial previous segment → length slot ≡ slot_size part
    → IsPut old new ci next → PutsSlot part old new serial previous segment
unfolding slot_in
slot_put part old new serial previous ci at segment given slot next ec ea low high q eg en h es p =
    let size : length given ≡ part.shape.ci = ap length eg ∙ q.is_size in
    let fits : at + slot_size part ≤ length given = omega (arith, size, high) in
    let lw : length (written given at slot) ≡ length given =
    length-written given slot at (omega (arith, es, fits)) in
    let keeps : Keeps given (written given at slot) 0 32 =
    λ k x y. written-below given slot at k (omega (arith, fits)) (omega (arith, low, y)) in
    let is : IsInterval (written given at slot) =
    sequential-keeps given (written given at slot) (rw eg q.is_interval) (ap kind_of eg ∙ q.is_kind) lw keeps in
    let kind : kind_of (written given at slot) ≡ 4 =
    kind-keeps given (written given at slot) keeps ∙ ap kind_of eg ∙ q.is_kind in
    let here : bytes_at new ci ≡ written given at slot = p.here ∙ en in
    let placed : IsSequential part new ci = record {
      below = rw p.same_number q.below;
      is_interval = rw here is;
      is_kind = ap kind_of here ∙ kind;
      is_size = ap length here ∙ lw ∙ size;
    } in
    record {
      was_in_place = rw (← ec) q;
      in_place = rw (← ec) placed;
      holds = rw (← ec, here, ← ea, written-slot given slot at (slot_size part) fits es) h;
      others = λ other n. other_slot part old new serial ci at given slot other ec ea fits es eg here p.others n;
      elsewhere = λ c n. p.others c (λ e. n (e ∙ ec));
      same_number = p.same_number;
    }
