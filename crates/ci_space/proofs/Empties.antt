-- New intervals.
use Rattle.std.proofs.Common.{◌≡◌, ◌≢◌, ℕ, zero, suc, ◌+◌, ◌-◌, ◌/◌, ◌%◌, ◌<◌, ◌≤◌, true, false, List, [], ◌∷◌, ◌++◌, length, get_or, set, replicate, refl, sym, ap, ◌∙◌, arith, inl, inr, IsTrue}
use Rattle.std.proofs.lemmas.List.{get_or_append_left, get_or-append_right, get_or-replicate, length-replicate, length-append, replicate-append-replicate}
use Rattle.std.proofs.lemmas.Bool.{cases_Bool}
use Rattle.ci_space.specs.Element.{Free}
use Rattle.ci_space.specs.Interval.{is_size, is_kind, kind_of, has_elements, IsHead, Tiles, IsInterval, empty_bytes, empty_elements}
use Rattle.ci_space.proofs.Tilings.{size-bounds}

size_fours : (n : ℕ) → IsTrue (is_size n) → n % 4 ≡ 0
size_fours n h = grind arith

-- zeros, split where an interval's head ends
zeros_split : (size : ℕ) → 36 ≤ size → replicate {A = ℕ} size 0 ≡ replicate 32 0 ++ (0 ∷ 0 ∷ replicate (size - 34) 0)
zeros_split size l =
    let e : 32 + suc (suc (size - 34)) ≡ size = omega arith in
    ap (λ n. replicate {A = ℕ} n 0) (sym e) ∙ sym (replicate-append-replicate {A = ℕ} 32 (suc (suc (size - 34))) 0)

zeros_whole : (size : ℕ) → 36 ≤ size → replicate {A = ℕ} size 0 ≡ replicate 32 0 ++ replicate (size - 32) 0
zeros_whole size l =
    let e : 32 + (size - 32) ≡ size = omega arith in
    ap (λ n. replicate {A = ℕ} n 0) (sym e) ∙ sym (replicate-append-replicate {A = ℕ} 32 (size - 32) 0)

pub put-tiled : (size kind : ℕ) → IsTrue (is_size size) → IsTrue (has_elements kind)
    → set (set (set (replicate size 0) 0 kind) 32 ((size - 32) / 256)) 33 ((size - 32) % 256) ≡ empty_bytes size kind
unfolding empty_bytes empty_elements
put-tiled size kind s h =
    let b : (512 ≤ size) × (size ≤ 4096) = size-bounds size s in
    let z : replicate size 0 ≡ replicate 32 0 ++ (0 ∷ 0 ∷ replicate (size - 34) 0) = zeros_split size (omega arith) in
    rw (h, z) refl

pub put-untiled : (size kind : ℕ) → IsTrue (is_size size) → has_elements kind ≡ false
    → set (replicate size 0) 0 kind ≡ empty_bytes size kind
unfolding empty_bytes empty_elements
put-untiled size kind s h =
    let b : (512 ≤ size) × (size ≤ 4096) = size-bounds size s in
    let z : replicate size 0 ≡ replicate 32 0 ++ replicate (size - 32) 0 = zeros_whole size (omega arith) in
    rw (h, z) refl

pub put-tiled-zeros : (bytes : List ℕ) (kind : ℕ) → bytes ≡ replicate (length bytes) 0 → IsTrue (is_size (length bytes))
    → IsTrue (has_elements kind)
    → set (set (set bytes 0 kind) 32 ((length bytes - 32) / 256)) 33 ((length bytes - 32) % 256) ≡ empty_bytes
    (length bytes) kind
put-tiled-zeros bytes kind z s h =
    ap (λ xs. set (set (set xs 0 kind) 32 ((length bytes - 32) / 256)) 33 ((length bytes - 32) % 256)) z ∙ put-tiled
    (length bytes) kind s h

pub put-untiled-zeros : (bytes : List ℕ) (kind : ℕ) → bytes ≡ replicate (length bytes) 0
    → IsTrue (is_size (length bytes)) → has_elements kind ≡ false
    → set bytes 0 kind ≡ empty_bytes (length bytes) kind
put-untiled-zeros bytes kind z s h = ap (λ xs. set xs 0 kind) z ∙ put-untiled (length bytes) kind s h

-- the head of a new interval
zero_at : (kind : ℕ) (rest : List ℕ) (i : ℕ) → 1 ≤ i → i < 32 → get_or (kind ∷ replicate 31 0 ++ rest) i 0 ≡ 0
zero_at kind rest zero a b = absurd (omega arith)
zero_at kind rest (suc i) a b =
    get_or_append_left (replicate 31 0) rest 0 i (omega (arith, length-replicate {A = ℕ} 31 0)) ∙ get_or-replicate 31 i
    0 0 (omega arith)

empty_head : (kind : ℕ) (rest : List ℕ) → IsTrue (is_kind kind) → IsHead (kind ∷ replicate 31 0 ++ rest)
empty_head kind rest k = record {
  kind = k;
  spare = λ i a b. zero_at kind rest i a (omega arith);
  root = λ _ i a b. zero_at kind rest i (omega arith) (omega arith);
  between = λ i a b. zero_at kind rest i (omega arith) (omega arith);
  link = λ _ _ i a b. zero_at kind rest i (omega arith) (omega arith);
  owner = λ _ i a b. zero_at kind rest i (omega arith) b;
}

not_control : (kind : ℕ) → IsTrue (has_elements kind) → kind ≢ 1
not_control kind h e = let f = rw e at h in let g : false ≡ true = f in cc

tiled_tiles : (size kind : ℕ) → IsTrue (is_size size) → IsTrue (is_kind kind) → IsTrue (has_elements kind)
    → Tiles (kind ∷ replicate 31 0 ++ ((size - 32) / 256 ∷ (size - 32) % 256 ∷ replicate (size - 34) 0))
    (Free (size - 32) ∷ [])
tiled_tiles size kind s k h =
    let b : (512 ≤ size) × (size ≤ 4096) = size-bounds size s in
    let rest : List ℕ = (size - 32) / 256 ∷ (size - 32) % 256 ∷ replicate (size - 34) 0 in
    let n : length (kind ∷ replicate 31 0 ++ rest) ≡ size =
    omega (arith, length-append (kind ∷ replicate 31 0) rest, length-replicate {A = ℕ} (size - 34) 0) in
    let f : size % 4 ≡ 0 = size_fours size s in
    record {
      size = rw n s;
      head = empty_head kind rest k;
      tiled = λ _. (
        record {
          is_length = omega arith;
          is_tag = get_or-replicate (size - 34) 0 0 0 (omega arith);
          is_segment = get_or-replicate (size - 34) 1 0 0 (omega arith);
          least = omega arith;
          fours = omega arith;
        },
        omega arith,
      );
      is_merged = (tt, tt);
      untiled = λ g. let a : true ≡ false = sym h ∙ g in cc;
      control = λ e. absurd (not_control kind h e);
    }

zero_behind : (kind size i : ℕ) → 36 ≤ size → 64 ≤ i → i < size
    → get_or (kind ∷ replicate 31 0 ++ replicate (size - 32) 0) i 0 ≡ 0
zero_behind kind size i l a b =
    get_or-append_right (kind ∷ replicate 31 0) (replicate (size - 32) 0) 32 i 0 refl (omega arith) ∙ get_or-replicate
    (size - 32) (i - 32) 0 0 (omega arith)

untiled_tiles : (size kind : ℕ) → IsTrue (is_size size) → IsTrue (is_kind kind) → has_elements kind ≡ false
    → Tiles (kind ∷ replicate 31 0 ++ replicate (size - 32) 0) []
untiled_tiles size kind s k h =
    let b : (512 ≤ size) × (size ≤ 4096) = size-bounds size s in
    let n : length (kind ∷ replicate 31 0 ++ replicate (size - 32) 0) ≡ size =
    omega (
      arith,
      length-append (kind ∷ replicate 31 0) (replicate (size - 32) 0),
      length-replicate {A =
          ℕ} (size - 32) 0,
    ) in
    record {
      size = rw n s;
      head = empty_head kind (replicate (size - 32) 0) k;
      tiled = λ g. let a : true ≡ false = sym g ∙ h in absurd (cc);
      is_merged = tt;
      untiled = λ g. refl;
      control = λ e i a c. zero_behind kind size i (omega arith) a (omega arith);
    }

pub tiled-tiles : (size kind : ℕ) → IsTrue (is_size size) → IsTrue (is_kind kind) → IsTrue (has_elements kind)
    → Tiles (empty_bytes size kind) (Free (size - 32) ∷ [])
unfolding empty_bytes empty_elements
tiled-tiles size kind s k h = rw h (tiled_tiles size kind s k h)

pub untiled-tiles : (size kind : ℕ) → IsTrue (is_size size) → IsTrue (is_kind kind) → has_elements kind ≡ false
    → Tiles (empty_bytes size kind) []
unfolding empty_bytes empty_elements
untiled-tiles size kind s k h = rw h (untiled_tiles size kind s k h)

pub empty-interval : (size kind : ℕ) → IsTrue (is_size size) → IsTrue (is_kind kind)
    → IsInterval (empty_bytes size kind)
empty-interval size kind s k = elim (cases_Bool (has_elements kind)) as (λ _. IsInterval (empty_bytes size kind)) [
  | inl h ↦ record { elements = Free (size - 32) ∷ []; tiles = tiled-tiles size kind s k h }
  | inr h ↦ record { elements = []; tiles = untiled-tiles size kind s k h }
]

pub length-empty : (size kind : ℕ) → IsTrue (is_size size) → length (empty_bytes size kind) ≡ size
unfolding empty_bytes empty_elements
length-empty size kind s =
    let b : (512 ≤ size) × (size ≤ 4096) = size-bounds size s in
    elim (cases_Bool (has_elements kind)) as (λ _. length (empty_bytes size kind) ≡ size) [
      | inl h ↦ rw h (omega (
        arith,
        length-append (kind ∷ replicate 31 0)
            ((size - 32) / 256 ∷ (size - 32) % 256 ∷ replicate (size - 34) 0),
        length-replicate {A = ℕ} (size - 34) 0,
      ))
      | inr h ↦ rw h (omega (
        arith,
        length-append (kind ∷ replicate 31 0) (replicate (size - 32) 0),
        length-replicate {A = ℕ} (size - 32) 0,
      ))
    ]

pub kind-empty : (size kind : ℕ) → kind_of (empty_bytes size kind) ≡ kind
unfolding empty_bytes
kind-empty size kind = refl
