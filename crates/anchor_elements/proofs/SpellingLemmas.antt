-- Parts that are put into an element's content.
use Rattle.std.proofs.Common.{◌≡◌, ℕ, zero, suc, ◌+◌, ◌*◌, ◌<◌, ◌≤◌, List, [], ◌∷◌, ◌++◌, length, get_or, take, slice_range, Bool, true, false, IsTrue, refl, sym, ap, ◌∙◌, arith}
use Rattle.std.proofs.lemmas.List.{take_more}
use Rattle.byteorder.specs.Endian.{big_from}
use Rattle.ci_space.specs.Interval.{IsZero, Keeps}
use Rattle.ci_space.specs.Numbers.{PutsNumber}
use Rattle.ci_space.proofs.Places.{big_from-keeps}
use Rattle.anchor_elements.specs.Elements.{Pointer, Segment, nothing, pointer_at, pointers_from}
use Rattle.anchor_elements.specs.Spelling.{Spells, firsts_at}
use Rattle.anchor_elements.proofs.Pointers.{same_pointer}

-- ---- pointers

-- what keeps a pointer
pub pointer_keeps : (old new : List ℕ) (at : ℕ) → Keeps old new at (at + 10) → pointer_at new at ≡ pointer_at old at
pointer_keeps old new at k = same_pointer (pointer_at new at) (pointer_at old at)
    (big_from-keeps 8 at old new (λ i x y. k i x (omega arith)))
    (big_from-keeps 2 (at + 8) old new (λ i x y. k i (omega arith) (omega arith)))

-- what keeps pointers
pub pointers_keep : (n : ℕ) (old new : List ℕ) (at : ℕ) → Keeps old new at (at + 10 * n)
    → pointers_from new at n ≡ pointers_from old at n
pointers_keep zero old new at k = refl
pointers_keep (suc n) old new at k =
    let e : pointer_at new at ≡ pointer_at old at = pointer_keeps old new at (λ i x y. k i x (omega arith)) in
    let r : pointers_from new (at + 10) n ≡ pointers_from old (at + 10) n =
    pointers_keep n old new (at + 10) (λ i x y. k i (omega arith) (omega arith)) in
    ap (λ (p : Pointer). p ∷ pointers_from new (at + 10) n) e ∙ ap (λ (ps : List Pointer). pointer_at old at ∷ ps) r

-- one more
pub pointers_more : (n : ℕ) (content : List ℕ) (at : ℕ)
    → pointers_from content at (suc n) ≡ pointers_from content at n ++ pointer_at content (at + 10 * n) ∷ []
pointers_more zero content at = (let e : at + 10 * 0 ≡ at = omega arith in rw e refl)
pointers_more (suc n) content at =
    let r : pointers_from content (at + 10) (suc n) ≡ pointers_from content (at + 10) n ++ pointer_at content
    (at + 10 + 10 * n) ∷ [] = pointers_more n content (at + 10) in
    let e : at + 10 + 10 * n ≡ at + 10 * suc n = omega arith in
    ap (λ (ps : List Pointer). pointer_at content at ∷ ps) r ∙ ap
    (λ (k : ℕ). pointer_at content at ∷ (pointers_from content (at + 10) n ++ pointer_at content k ∷ [])) e

-- a pointer is put: its interval, then its place there
pub pointer_put : (old middle new : List ℕ) (at : ℕ) (pointer : Pointer) → PutsNumber old middle at 8 pointer.0
    → PutsNumber middle new (at + 8) 2 pointer.1 → pointer_at new at ≡ pointer
pointer_put old middle new at pointer p q = same_pointer (pointer_at new at) pointer
    (big_from-keeps 8 at middle new (λ i x y. q.below i (omega arith) (omega arith)) ∙ p.is_number)
    q.is_number

-- pointers are put one after the other
pub pointers_put : (old new : List ℕ) (pointers : List Pointer) (from at n : ℕ) → n < length pointers
    → at ≡ from + 10 * n
    → pointers_from old from n ≡ take n pointers → pointer_at new at ≡ get_or pointers n nothing → Keeps old new 0 at
    → pointers_from new from (n + 1) ≡ take (n + 1) pointers
pointers_put old new pointers from at n l e h p k =
    let s : n + 1 ≡ suc n = omega arith in
    let m : pointers_from new from (suc n) ≡ pointers_from new from n ++ pointer_at new (from + 10 * n) ∷ [] =
    pointers_more n new from in
    let a : pointers_from new from n ≡ take n pointers =
    pointers_keep n old new from (λ i x y. k i (omega arith) (omega arith)) ∙ h in
    let b : pointer_at new (from + 10 * n) ≡ get_or pointers n nothing = ap (pointer_at new) (sym e) ∙ p in
    let t : take (n + 1) pointers ≡ take n pointers ++ get_or pointers n nothing ∷ [] =
    take_more pointers n nothing l in
    ap (pointers_from new from) s ∙ m ∙ ap (λ (ps : List Pointer). ps ++ pointer_at new (from + 10 * n) ∷ []) a ∙ ap
    (λ (q : Pointer). take n pointers ++ q ∷ []) b ∙ sym t

-- ---- a whole content

pub firsts_bounds : (h : Bool) → (10 ≤ firsts_at h) × (firsts_at h ≤ 18)
firsts_bounds true = (omega arith, omega arith)
firsts_bounds false = (omega arith, omega arith)

pub firsts_behind : (h : Bool) → IsTrue h → firsts_at h ≡ 18
firsts_behind true t = refl
firsts_behind false t = absurd (cc)

-- the parts are put into zeros, one behind the other
pub spells : (b0 b1 b2 b3 b4 : List ℕ) (h : Bool) (from : ℕ) (s : Segment) → from ≡ firsts_at h
    → IsZero b0 0 (length b0)
    → length b1 ≡ length b0 → length b2 ≡ length b1 → length b3 ≡ length b2 → length b4 ≡ length b3
    → pointer_at b1 0 ≡ s.next → Keeps b0 b1 10 (length b0)
    → (IsTrue h → big_from 10 8 b2 ≡ s.serial) → Keeps b1 b2 0 10 → Keeps b1 b2 from (length b1)
    → pointers_from b3 from (length s.firsts) ≡ s.firsts → Keeps b2 b3 0 from
    → Keeps b2 b3 (from + 10 * length s.firsts) (length b2)
    → slice_range b4 (from + 10 * length s.firsts) (from + 10 * length s.firsts + length s.bytes) ≡ s.bytes
    → Keeps b3 b4 0 (from + 10 * length s.firsts) → Keeps b3 b4 (from + 10 * length s.firsts + length s.bytes)
    (length b3)
    → Spells b4 h s
spells b0 b1 b2 b3 b4 h from s e z l1 l2 l3 l4 p1 k1 p2 m2 k2 p3 m3 k3 p4 m4 k4 =
    let b = firsts_bounds h in
    record {
      next = pointer_keeps b3 b4 0 (λ i x y. m4 i x (omega arith)) ∙ pointer_keeps b2 b3 0
          (λ i x y. m3 i x (omega arith)) ∙ pointer_keeps b1 b2 0 (λ i x y. m2 i x y) ∙ p1;
      serial = λ t.
          let f : firsts_at h ≡ 18 = firsts_behind h t in
          big_from-keeps 8 10 b3 b4 (λ i x y. m4 i (omega arith) (omega arith)) ∙ big_from-keeps 8 10 b2 b3
          (λ i x y. m3 i (omega arith) (omega arith)) ∙ p2 t;
      firsts = rw (← e) (pointers_keep (length s.firsts) b3 b4 from (λ i x y. m4 i (omega arith) y) ∙ p3);
      bytes = rw (← e) p4;
      zeros = rw (← e) (λ i x y.
          k4 i x (omega arith) ∙ k3 i (omega arith) (omega arith) ∙ k2 i (omega arith) (omega arith) ∙ k1 i
          (omega arith) (omega arith) ∙ z i (omega arith) (omega arith));
    }
