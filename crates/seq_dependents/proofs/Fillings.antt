-- Slots that are written one after the other.
use Rattle.std.proofs.Common.{◌≡◌, ◌≢◌, ℕ, ◌+◌, ◌*◌, ◌/◌, ◌%◌, ◌<◌, ◌≤◌, ◌⊎◌, inl, inr, List, [], get_or, refl, ◌∙◌, arith}
use Rattle.std.proofs.lemmas.Bool.{cases_lt}
use Rattle.std.proofs.lemmas.Nat.{div_below, mod_below}
use Rattle.ci_overflow.specs.Lists.{bytes_at}
use Rattle.ci_overflow.specs.Places.{first_sequential, first_independent}
use Rattle.seq_dependents.specs.declared.part.Part.{Part}
use Rattle.seq_dependents.specs.Slots.{HoldsCapacity, Holds, IsSequential, slots_each, slot_number, interval_of, slot_of}
use Rattle.seq_dependents.specs.Puts.{PutsSlot, Fills, linked_to}
use Rattle.seq_dependents.proofs.Placing.{numbers_apart}
use Rattle.plain_laws.proofs.Numbers.{same_or_other}

pub interval_behind : (part : Part) (serial : ℕ) → first_sequential part.shape ≤ interval_of part serial
unfolding interval_of
interval_behind part serial = omega arith

pub each_some : (c s each : ℕ) → 1 ≤ c → c ≤ s * each → 0 < each
each_some c s each l m = elim (cases_lt 0 each) as (λ _. 0 < each) [
  | inl h ↦ h
  | inr h ↦ let z : each ≡ 0 = omega (arith, h) in let n : c ≤ s * 0 = rw (← z) m in omega (arith, n, l)
]

row_within : (serial c s each : ℕ) → 1 ≤ c → c ≤ s * each → serial % c / each < s
row_within serial c s each l m =
    let b : serial % c < c = mod_below serial c (omega arith) in
    div_below (serial % c) each s (each_some c s each l m) (omega (arith, b, m))

pub interval_before : (part : Part) (serial : ℕ) → HoldsCapacity part
    → interval_of part serial < first_independent part.shape
unfolding interval_of slot_number
interval_before part serial h =
    let b : serial % part.capacity / slots_each part < part.shape.seq_cis =
    row_within serial part.capacity part.shape.seq_cis (slots_each part) h.some h.fits in
    omega (arith, b)

pub puts_sequential : (part : Part) (old new : List (List ℕ)) (serial previous : ℕ) (segment : List ℕ)
    → PutsSlot part old new serial previous segment → (ci : ℕ) → IsSequential part old ci → IsSequential part new ci
puts_sequential part old new serial previous segment p ci s =
    elim (same_or_other ci (interval_of part serial)) as (λ _. IsSequential part new ci) [
      | inl e ↦ rw e p.in_place
      | inr n ↦
          let b : bytes_at new ci ≡ bytes_at old ci = p.elsewhere ci n in
          record {
            below = rw p.same_number s.below;
            is_interval = rw b s.is_interval;
            is_kind = rw b s.is_kind;
            is_size = rw b s.is_size;
          }
    ]

pub fills_none : (part : Part) (area : List (List ℕ)) (first previous : ℕ) (segments : List (List ℕ))
    → Fills part area area first previous segments 0
fills_none part area first previous segments = record {
  holds = λ k l. absurd (omega (arith, l));
  others = λ serial f. refl;
  elsewhere = λ ci d. refl;
  in_place = λ k l. absurd (omega (arith, l));
  stays_sequential = λ ci s. s;
  same_number = refl;
}

outside : (part : Part) (ci serial : ℕ) → HoldsCapacity part
    → (ci < first_sequential part.shape) ⊎ (first_independent part.shape ≤ ci) → ci ≢ interval_of part serial
outside part ci serial h d e =
    let a = interval_behind part serial in
    let b = interval_before part serial h in
    elim d as (λ _. ⊥) [ inl l ↦ omega (arith, a, e, l) | inr l ↦ omega (arith, b, e, l) ]

last_or : (k n : ℕ) → k < n + 1 → (k < n) ⊎ (k ≡ n)
last_or k n l = elim (cases_lt k n) as (λ _. (k < n) ⊎ (k ≡ n)) [ inl h ↦ inl h | inr h ↦ inr (omega (arith, h, l)) ]

pub fills_on : (part : Part) (old mid new : List (List ℕ)) (first previous : ℕ) (segments : List (List ℕ))
    (n linked : ℕ)
    (segment : List ℕ) → HoldsCapacity part → n < part.capacity → linked ≡ linked_to first previous n
    → segment ≡ get_or segments n [] → Fills part old mid first previous segments n
    → PutsSlot part mid new (first + n) linked segment → Fills part old new first previous segments (n + 1)
fills_on part old mid new first previous segments n linked segment h few el es f p = record {
  holds = λ k l. elim (last_or k n l) as
      (λ _. Holds (slot_of part new (first + k)) (first + k) (linked_to first previous k) (get_or segments k [])) [
        | inl b ↦
            let e : slot_of part new (first + k) ≡ slot_of part mid (first + k) =
            p.others (first + k) (numbers_apart part (first + k) (first + n) (omega (arith, b)) (omega (arith, b, few)))
            in
            rw e (f.holds k b)
        | inr e ↦ rw (e, ← el, ← es) p.holds
      ];
  others = λ serial g.
      p.others serial (g n (omega arith)) ∙ f.others serial (λ k l. g k (omega (arith, l)));
  elsewhere = λ ci d.
      p.elsewhere ci (outside part ci (first + n) h d) ∙ f.elsewhere ci d;
  in_place = λ k l. elim (last_or k n l) as (λ _. IsSequential part new (interval_of part (first + k))) [
    | inl b ↦ puts_sequential part mid new (first + n) linked segment p _ (f.in_place k b)
    | inr e ↦ rw e p.in_place
  ];
  stays_sequential = λ ci s.
      puts_sequential part mid new (first + n) linked segment p ci (f.stays_sequential ci s);
  same_number = p.same_number ∙ f.same_number;
}
