-- Slots stand within their intervals, and different ones apart.
use Rattle.std.proofs.Common.{◌≡◌, ◌≢◌, ℕ, ◌+◌, ◌-◌, ◌*◌, ◌/◌, ◌%◌, ◌<◌, ◌≤◌, ◌⊎◌, inl, inr, ap, arith}
use Rattle.std.proofs.lemmas.Nat.{div-add-mod', mod_below, mul-le, row_fits}
use Rattle.std.proofs.lemmas.Bool.{cases_lt}
use Rattle.seq_dependents.specs.declared.part.Part.{Part}
use Rattle.seq_dependents.specs.Slots.{slots_each, slot_number, slot_size, interval_of, place_of}

-- a slot ends within its interval
pub slot_ends : (ci size each k : ℕ) → each ≡ (ci - 32) / size → 1 ≤ each → 1 ≤ size
    → 32 + k % each * size + size ≤ ci
slot_ends ci size each k e s z =
    let m : k % each < each = mod_below k each (omega (arith, s)) in
    let r : k % each * size + size ≤ each * size = row_fits (k % each) size each size m (omega arith) in
    let d : (ci - 32) / size * size + (ci - 32) % size ≡ ci - 32 = div-add-mod' (ci - 32) size in
    let f : each * size ≡ (ci - 32) / size * size = ap (λ x. x * size) e in
    omega (arith, r, d, f, z)

pub place_within : (part : Part) (each k a b : ℕ) → each ≡ slots_each part → 1 ≤ each → a ≡ 16 → b ≡ part.segment
    → 32 + k % each * (a + b) + (16 + part.segment) ≤ part.shape.ci
unfolding slots_each
place_within part each k a b e s f g = rw (f, g) (slot_ends part.shape.ci (16 + part.segment) each k e s (omega arith))

-- two slots of one interval are apart
rows_apart : (x y each size : ℕ) → x ≢ y → x / each ≡ y / each
    → (x % each * size + size ≤ y % each * size) ⊎ (y % each * size + size ≤ x % each * size)
rows_apart x y each size n d =
    let e : x / each * each + x % each ≡ x = div-add-mod' x each in
    let f : y / each * each + y % each ≡ y = div-add-mod' y each in
    let h : x / each * each ≡ y / each * each = ap (λ k. k * each) d in
    elim (cases_lt (x % each) (y % each)) as
    (λ _. (x % each * size + size ≤ y % each * size) ⊎ (y % each * size + size ≤ x % each * size)) [
      | inl l ↦ inl (row_fits (x % each) size (y % each) size l (omega arith))
      | inr l ↦ inr (row_fits (y % each) size (x % each) size (omega (arith, l, n, e, f, h)) (omega arith))
    ]

pub slots_apart : (part : Part) (a b : ℕ) → slot_number part a ≢ slot_number part b
    → interval_of part a ≡ interval_of part b
    → (place_of part a + slot_size part ≤ place_of part b) ⊎ (place_of part b + slot_size part ≤ place_of part a)
unfolding interval_of place_of
slots_apart part a b n e =
    let d : slot_number part a / slots_each part ≡ slot_number part b / slots_each part = omega (arith, e) in
    elim (rows_apart (slot_number part a) (slot_number part b) (slots_each part) (slot_size part) n d) as
    (λ _. (32 + slot_number part a % slots_each part * slot_size part + slot_size part ≤
    32 + slot_number part b % slots_each part * slot_size part)
    ⊎ (32 + slot_number part b % slots_each part * slot_size part
    + slot_size part ≤ 32 + slot_number part a % slots_each part * slot_size part)) [
      | inl l ↦ inl (omega (arith, l))
      | inr l ↦ inr (omega (arith, l))
    ]

-- serials that are less than the capacity apart have different slots
near_apart : (a b c : ℕ) → a < b → b < a + c → a % c ≡ b % c → ⊥
near_apart a b c l m e =
    let x : a / c * c + a % c ≡ a = div-add-mod' a c in
    let y : b / c * c + b % c ≡ b = div-add-mod' b c in
    let k : a / c < b / c = elim (cases_lt (a / c) (b / c)) as (λ _. a / c < b / c) [
      | inl h ↦ h
      | inr h ↦ absurd (let t : b / c * c ≤ a / c * c = mul-le (b / c) c (a / c) c h (omega arith) in
          omega (arith, t, x, y, e, l))
    ] in
    let t : a / c * c + c ≤ b / c * c = row_fits (a / c) c (b / c) c k (omega arith) in
    omega (arith, t, x, y, e, m)

pub numbers_apart : (part : Part) (a b : ℕ) → a < b → b < a + part.capacity → slot_number part a ≢ slot_number part b
unfolding slot_number
numbers_apart part a b l m e = near_apart a b part.capacity l m e
