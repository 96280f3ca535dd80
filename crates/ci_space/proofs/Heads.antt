-- Heads and ends that are put.
use Rattle.std.proofs.Common.{◌≡◌, ℕ, zero, suc, ◌+◌, ◌-◌, ◌*◌, ◌^◌, ◌<◌, ◌≤◌, ◌⊎◌, inl, inr, false, true, List, [], ◌∷◌, length, get_or, take, drop, refl, sym, ap, ◌∙◌, arith}
use Rattle.std.proofs.lemmas.List.{take_rest}
use Rattle.std.proofs.lemmas.Bool.{cases_lt}
use Rattle.std.proofs.lemmas.Nat.{pow_pos}
use Rattle.std.proofs.Math.Nat.{eq_of_mul-eq-mul_left, mul_comm}
use Rattle.byteorder.proofs.Bytes.{pow256}
use Rattle.ci_space.specs.Element.{Element}
use Rattle.byteorder.specs.Endian.{big_from}
use Rattle.ci_space.specs.declared.head.Head.{Head}
use Rattle.ci_space.specs.Interval.{kind_of, IsZero, Tiles}
use Rattle.ci_space.specs.Head.{head_of, ends_of, IsHeadOf}
use Rattle.ci_space.specs.Numbers.{PutsNumber}
use Rattle.ci_space.specs.Interval.{Keeps}
use Rattle.ci_space.proofs.Chains.{Chain-keeps, range-keeps}
use Rattle.ci_space.proofs.Places.{big_from-keeps}
use Rattle.ci_space.proofs.Tilings.{kind-keeps, head-keeps}

k_cases : (i k : ℕ) → i ≤ k → (k ≡ i) ⊎ (suc i ≤ k)
k_cases i k l = elim (cases_lt k (suc i)) as (λ _. (k ≡ i) ⊎ (suc i ≤ k)) [ inl h ↦ inl (omega arith) | inr h ↦ inr h ]

zero_factor : (a b : ℕ) → 0 < b → a * b ≡ 0 → a ≡ 0
zero_factor a b p e = eq_of_mul-eq-mul_left b p a 0 (grind (arith, mul_comm))

head_is : (k a b c d : ℕ) (h : Head) → k ≡ h.kind → a ≡ h.root.0 → b ≡ h.root.1 → c ≡ h.link → d ≡ h.owner
    → (let g : Head = record { kind = k; root = (a, b); link = c; owner = d } in g) ≡ h
head_is k a b c d h p q r s t = rw (p, q, r, s, t) refl

pub head-put : (b0 b1 b2 b3 b4 : List ℕ) (h : Head) → h.kind ≡ kind_of b0
    → PutsNumber b0 b1 4 8 h.root.0 → PutsNumber b1 b2 12 2 h.root.1 → PutsNumber b2 b3 16 8 h.link
    → PutsNumber b3 b4 24 8 h.owner → head_of b4 ≡ h
head-put b0 b1 b2 b3 b4 h e p q r s =
    let k : kind_of b4 ≡ h.kind = s.below 0 (omega arith) (omega arith) ∙ r.below 0 (omega arith) (omega arith) ∙
    q.below 0 (omega arith) (omega arith) ∙ p.below 0 (omega arith) (omega arith) ∙ sym e in
    let a : big_from 4 8 b4 ≡ h.root.0 =
    big_from-keeps 8 4 b3 b4 (λ i x y. s.below i (omega arith) (omega arith))
    ∙ big_from-keeps 8 4 b2 b3 (λ i x y. r.below i (omega arith) (omega arith))
    ∙ big_from-keeps 8 4 b1 b2 (λ i x y. q.below i (omega arith) (omega arith)) ∙ p.is_number in
    let b : big_from 12 2 b4 ≡ h.root.1 =
    big_from-keeps 2 12 b3 b4 (λ i x y. s.below i (omega arith) (omega arith))
    ∙ big_from-keeps 2 12 b2 b3 (λ i x y. r.below i (omega arith) (omega arith)) ∙ q.is_number in
    let c : big_from 16 8 b4 ≡ h.link = big_from-keeps 8 16 b3 b4 (λ i x y. s.below i (omega arith) (omega arith)) ∙
    r.is_number in
    head_is (kind_of b4) (big_from 4 8 b4) (big_from 12 2 b4) (big_from 16 8 b4) (big_from 24 8 b4) h k a b c
    s.is_number

list_is : (w x y z a b c d : ℕ) → w ≡ a → x ≡ b → y ≡ c → z ≡ d → w ∷ x ∷ y ∷ z ∷ [] ≡ a ∷ b ∷ c ∷ d ∷ []
list_is w x y z a b c d p q r s = cc

pub ends-put : (b0 b1 b2 b3 b4 : List ℕ) (a b c d : ℕ) → PutsNumber b0 b1 32 8 a → PutsNumber b1 b2 40 8 b
    → PutsNumber b2 b3 48 8 c → PutsNumber b3 b4 56 8 d
    → ends_of b4 ≡ a ∷ b ∷ c ∷ d ∷ []
ends-put b0 b1 b2 b3 b4 a b c d p q r s =
    let x : big_from 32 8 b4 ≡ a =
    big_from-keeps 8 32 b3 b4 (λ i x y. s.below i (omega arith) (omega arith))
    ∙ big_from-keeps 8 32 b2 b3 (λ i x y. r.below i (omega arith) (omega arith))
    ∙ big_from-keeps 8 32 b1 b2 (λ i x y. q.below i (omega arith) (omega arith)) ∙ p.is_number in
    let y : big_from 40 8 b4 ≡ b =
    big_from-keeps 8 40 b3 b4 (λ i x y. s.below i (omega arith) (omega arith))
    ∙ big_from-keeps 8 40 b2 b3 (λ i x y. r.below i (omega arith) (omega arith)) ∙ q.is_number in
    let z : big_from 48 8 b4 ≡ c = big_from-keeps 8 48 b3 b4 (λ i x y. s.below i (omega arith) (omega arith)) ∙
    r.is_number in
    list_is (big_from 32 8 b4) (big_from 40 8 b4) (big_from 48 8 b4) (big_from 56 8 b4) a b c d x y z s.is_number

pub four-numbers : (xs : List ℕ) → length xs ≡ 4 → get_or xs 0 0 ∷ get_or xs 1 0 ∷ get_or xs 2 0 ∷ get_or xs 3 0 ∷ [] ≡
    xs
four-numbers [] e = absurd (omega arith)
four-numbers (a ∷ []) e = absurd (omega arith)
four-numbers (a ∷ b ∷ []) e = absurd (omega arith)
four-numbers (a ∷ b ∷ c ∷ []) e = absurd (omega arith)
four-numbers (a ∷ b ∷ c ∷ d ∷ []) e = refl
four-numbers (a ∷ b ∷ c ∷ d ∷ f ∷ xs) e = absurd (omega arith)

-- a number that is 0 has no byte that isn't
pub zero-number : (n i : ℕ) (bytes : List ℕ) → big_from i n bytes ≡ 0 → IsZero bytes i (i + n)
zero-number zero i bytes e k a b = absurd (omega arith)
zero-number (suc n) i bytes e k a b =
    let p : 0 < 256 ^ n = rw (pow256 n) (pow_pos (8 * n)) in
    let m : get_or bytes i 0 * 256 ^ n ≡ 0 = omega arith in
    let first : get_or bytes i 0 ≡ 0 = zero_factor (get_or bytes i 0) (256 ^ n) p m in
    let rest : big_from (suc i) n bytes ≡ 0 = omega arith in
    elim (k_cases i k a) as (λ _. get_or bytes k 0 ≡ 0)
    [ inl e ↦ rw e first | inr l ↦ zero-number n (suc i) bytes rest k l (omega arith) ]

-- the bytes from a place on
pub drop-keeps : (old new : List ℕ) (at : ℕ) → length new ≡ length old → Keeps old new at (length old)
    → drop at new ≡ drop at old
drop-keeps old new at l k =
    let r : take (length old - at) (drop at new) ≡ take (length old - at) (drop at old) =
    range-keeps old new at (length old) l k in
    let n : take (length new - at) (drop at new) ≡ drop at new = take_rest new at in
    let o : take (length old - at) (drop at old) ≡ drop at old = take_rest old at in
    sym n ∙ ap (λ i. take (i - at) (drop at new)) l ∙ r ∙ o

zero_root : (bytes : List ℕ) (a b : ℕ) → big_from 4 8 bytes ≡ a → big_from 12 2 bytes ≡ b → a ≡ 0 → b ≡ 0
    → IsZero bytes 4 14
zero_root bytes a b e f x y k h i = elim (cases_lt k 12) as (λ _. get_or bytes k 0 ≡ 0) [
  | inl l ↦ zero-number 8 4 bytes (e ∙ x) k h (omega arith)
  | inr l ↦
      zero-number 2 12 bytes (f ∙ y) k l (omega arith)
]

-- a head of the same kind is put
pub head-tiles : (old new : List ℕ) (h : Head) → length new ≡ length old → IsHeadOf (kind_of old) h → head_of new ≡ h
    → Keeps old new 1 4 → Keeps old new 14 16
    → Keeps old new 32 (length old) → (es : List Element) → Tiles old es → Tiles new es
head-tiles old new h l a e spare between others es t =
    let k : kind_of new ≡ kind_of old = ap (λ (g : Head). g.kind) e ∙ a.same in
    record {
      size = rw l t.size;
      head = record {
        kind = rw k t.head.kind;
        spare = λ i x y. spare i x y ∙ t.head.spare i x y;
        root = λ n. zero_root new h.root.0 h.root.1 (ap (λ (g : Head). g.root.0) e) (ap (λ (g : Head). g.root.1) e)
            (ap (λ (p : ℕ × ℕ). p.0) (a.root (λ b. n (k ∙ b)))) (ap (λ (p : ℕ × ℕ). p.1) (a.root (λ b. n (k ∙ b))));
        between = λ i x y. between i x y ∙ t.head.between i x y;
        link = λ m n. zero-number 8 16 new (ap (λ (g : Head). g.link) e ∙ a.link (λ b. m (k ∙ b)) (λ b. n (k ∙ b)));
        owner = λ n. zero-number 8 24 new (ap (λ (g : Head). g.owner) e ∙ a.owner (λ b. n (k ∙ b)));
      };
      tiled = λ b. rw l (Chain-keeps es old new 32 (length old) l others (t.tiled (rw (← k) b)));
      is_merged = t.is_merged;
      untiled = λ b. t.untiled (rw (← k) b);
      control = λ b i x y. others i (omega arith) (rw (← l) y) ∙ t.control (sym k ∙ b) i x (rw (← l) y);
    }

-- control's numbers are put
pub ends-tiles : (old new : List ℕ) → length new ≡ length old → kind_of old ≡ 1 → Keeps old new 0 32
    → Keeps old new 64 (length old)
    → (es : List Element) → Tiles old es → Tiles new es
ends-tiles old new l c head others es t =
    let k : kind_of new ≡ 1 = kind-keeps old new head ∙ c in
    record {
      size = rw l t.size;
      head = head-keeps old new head t.head;
      tiled = λ b. let d = rw k at b in let f : false ≡ true = d in absurd (cc);
      is_merged = t.is_merged;
      untiled = λ b. t.untiled (rw c refl);
      control = λ b i x y. others i x (rw (← l) y) ∙ t.control c i x (rw (← l) y);
    }
