-- A free element that becomes a used one, and a used one that becomes free.
use Rattle.std.proofs.Common.{◌≡◌, ℕ, zero, suc, ◌+◌, ◌-◌, ◌%◌, ◌<◌, ◌≤◌, List, [], ◌∷◌, ◌++◌, length, drop, slice_range, refl, sym, ap, ◌∙◌, add_assoc, zero-add, arith}
use Rattle.std.proofs.lemmas.List.{length-take, length-drop}
use Rattle.ci_space.specs.Element.{Element, Free, Used, size, sizes, Begins, StandsAt, Chain, IsMerged, front_free, merged, rest_free}
use Rattle.ci_space.specs.Walk.{length_of}
use Rattle.ci_space.specs.inside.Walk.{last_free, first_free}
use Rattle.ci_space.specs.Interval.{Keeps}
use Rattle.ci_space.proofs.Chains.{Chain-end, Chain-append, Chain-front, Chain-back, Chain-keeps}

-- a used element, by its first bytes
pub used-stands : (bytes : List ℕ) (at n segment : ℕ) → Begins bytes at n 1 segment → at + n ≤ length bytes →
    (4 + length (slice_range bytes (at + 4) (at + n)) ≡ n)
    × StandsAt bytes at (Used segment (slice_range bytes (at + 4) (at + n)))
used-stands bytes at n segment b l =
    let content : List ℕ = slice_range bytes (at + 4) (at + n) in
    let four : 4 ≤ n = b.least in
    let k : length content ≡ n - 4 = omega (
      arith,
      length-take (at + n - (at + 4)) (drop (at + 4) bytes),
      length-drop (at + 4) bytes,
    ) in
    let m : 4 + length content ≡ n = omega arith in
    let whole : at + 4 + length content ≡ at + n = omega arith in
    (m, (rw m b, ap (λ k. slice_range bytes (at + 4) k) whole))

rest_chain : (k : ℕ) (bytes : List ℕ) (at : ℕ) → (0 < k → Begins bytes at k 0 0) → Chain (rest_free k) bytes at (at + k)
rest_chain zero bytes at b = omega arith
rest_chain (suc k) bytes at b = (b (omega arith), refl)

pub splits : (old new : List ℕ) (n at : ℕ) (before after : List Element) (free : ℕ) → length new ≡ length old
    → Keeps old new 0 at → Begins new at n 1 0
    → (n < free → Begins new (at + n) (free - n) 0 0) → Keeps old new (at + free) (length old) → at ≡ 32 + sizes before
    → n ≤ free
    → Chain (before ++ Free free ∷ after) old 32 (length old)
    → (content : List ℕ) × (4 + length content ≡ n)
    × Chain (before ++ Used 0 content ∷ rest_free (free - n) ++ after) new 32 (length new)
splits old new n at before after free l below b r above e h c =
    let back : Chain (Free free ∷ after) old at (length old) =
    rw e (Chain-back before (Free free ∷ after) old 32 (length old) c) in
    let front : Chain before old 32 at = rw e (Chain-front before (Free free ∷ after) old 32 (length old) c) in
    let all : at + free + sizes after ≡ length old = Chain-end after old (at + free) (length old) back.1 in
    let u : (4 + length (slice_range new (at + 4) (at + n)) ≡ n)
    × StandsAt new at (Used 0 (slice_range new (at + 4) (at + n))) = used-stands new at n 0 b (omega arith) in
    let s : at + n + (free - n) ≡ at + free = omega arith in
    let rest : Chain (rest_free (free - n)) new (at + n) (at + free) =
    rw (← s) (rest_chain (free - n) new (at + n) (λ p. r (omega arith))) in
    let kept : Chain before new 32 at = Chain-keeps before old new 32 at l (λ i x y. below i (omega arith) y) front in
    let behind : Chain after new (at + free) (length new) =
    rw l (Chain-keeps after old new (at + free) (length old) l above back.1) in (
      slice_range new (at + 4) (at + n),
      u.0,
      Chain-append (before ++ Used 0 (slice_range new (at + 4) (at + n)) ∷ rest_free (free - n)) after new 32
          (at + free) (length new)
          (Chain-append before (Used 0 (slice_range new (at + 4) (at + n)) ∷ rest_free (free - n)) new 32 at (at + free)
          kept (u.1, rw u.0 rest))
          behind,
    )

-- the elements in front of the free one at their end
abbrev front_of : List Element → List Element
front_of [] = []
front_of (Free n ∷ []) = []
front_of (Used segment content ∷ []) = Used segment content ∷ []
front_of (e ∷ f ∷ es) = e ∷ front_of (f ∷ es)

-- merging what is merged
pub merged-same : (es : List Element) → IsMerged es → merged es ≡ es
merged-same [] m = refl
merged-same (Free n ∷ []) m = refl
merged-same (Free n ∷ Free k ∷ es) m = absurd m.0
merged-same (Free n ∷ Used segment content ∷ es) m = ap (λ xs. Free n ∷ Used segment content ∷ xs) (merged-same es m.1)
merged-same (Used segment content ∷ es) m = ap (λ xs. Used segment content ∷ xs) (merged-same es m)

front_merged : (n : ℕ) (es : List Element) → IsMerged es → IsMerged (front_free n es)
front_merged n [] m = (tt, tt)
front_merged n (Free k ∷ es) m = m
front_merged n (Used segment content ∷ es) m = (tt, m)

pub merged-merges : (es : List Element) → IsMerged (merged es)
merged-merges [] = tt
merged-merges (Free n ∷ es) = front_merged n (merged es) (merged-merges es)
merged-merges (Used segment content ∷ es) = merged-merges es

front_twice : (m n : ℕ) (es : List Element) → front_free m (front_free n es) ≡ front_free (m + n) es
front_twice m n [] = refl
front_twice m n (Free k ∷ es) = ap (λ i. Free i ∷ es) (sym (add_assoc m n k))
front_twice m n (Used segment content ∷ es) = refl

merged_freed : (before after : List Element) (segment : ℕ) (content : List ℕ) (n : ℕ)
    → IsMerged (before ++ Used segment content ∷ after)
    → merged (before ++ Free n ∷ after) ≡ front_of before ++ front_free (last_free before + n) after
merged_freed [] after segment content n m = ap (front_free n) (merged-same after m) ∙ ap (λ i. front_free i after)
    (sym (zero-add n))
merged_freed (Free k ∷ []) after segment content n m =
    ap (λ xs. front_free k (front_free n xs)) (merged-same after m.1) ∙ front_twice k n after
merged_freed (Used s c ∷ []) after segment content n m =
    ap (λ xs. Used s c ∷ front_free n xs) (merged-same after m) ∙ ap (λ i. Used s c ∷ front_free i after)
    (sym (zero-add n))
merged_freed (Free k ∷ Free i ∷ es) after segment content n m = absurd m.0
merged_freed (Free k ∷ Used s c ∷ es) after segment content n m =
    ap (λ xs. Free k ∷ xs) (merged_freed (Used s c ∷ es) after segment content n m.1)
merged_freed (Used s c ∷ f ∷ es) after segment content n m =
    ap (λ xs. Used s c ∷ xs) (merged_freed (f ∷ es) after segment content n m)

front_chain : (before : List Element) (bytes : List ℕ) (from at start : ℕ) → start + last_free before ≡ at
    → Chain before bytes from at → Chain (front_of before) bytes from start
front_chain [] bytes from at start e c = omega arith
front_chain (Free n ∷ []) bytes from at start e c = omega (arith, c.1)
front_chain (Used segment content ∷ []) bytes from at start e c = (c.0, omega (arith, c.1))
front_chain (d ∷ f ∷ es) bytes from at start e c = (c.0, front_chain (f ∷ es) bytes (from + size d) at start e c.1)

back_chain : (after : List Element) (old new : List ℕ) (start n total : ℕ) → length new ≡ length old
    → Begins new start total 0 0 → total ≡ n + first_free after
    → Keeps old new (start + 4) (length old) → Chain after old (start + n) (length old) → 4 ≤ n
    → Chain (front_free n after) new start (length new)
back_chain [] old new start n total l b e k c p =
    let same : total ≡ n = omega arith in
    (rw (← same) b, omega (arith, c))
back_chain (Free m ∷ es) old new start n total l b e k c p =
    let same : total ≡ n + m = e in (
      rw (← same) b,
      rw (l, ← add_assoc start n m) (Chain-keeps es old new (start + n + m) (length old) l
          (λ i x y. k i (omega arith) y) c.1),
    )
back_chain (Used segment content ∷ es) old new start n total l b e k c p =
    let same : total ≡ n = omega arith in (
      rw (← same) b,
      rw l (Chain-keeps (Used segment content ∷ es) old new (start + n) (length old) l
          (λ i x y. k i (omega arith) y) c),
    )

pub frees : (old new : List ℕ) (at start total : ℕ) (before after : List Element) (segment : ℕ) (content : List ℕ)
    → length new ≡ length old
    → at ≡ 32 + sizes before → start + last_free before ≡ at
    → Chain (before ++ Used segment content ∷ after) old 32 (length old)
    → IsMerged (before ++ Used segment content ∷ after) → Begins new start total 0 0
    → total ≡ last_free before + (4 + length content) + first_free after
    → Keeps old new 0 start → Keeps old new (start + 4) (length old)
    → Chain (merged (before ++ Free (4 + length content) ∷ after)) new 32 (length new)
frees old new at start total before after segment content l e s c m b t below above =
    let back : Chain (Used segment content ∷ after) old at (length old) =
    rw e (Chain-back before (Used segment content ∷ after) old 32 (length old) c) in
    let front : Chain before old 32 at = rw e (Chain-front before (Used segment content ∷ after) old 32 (length old) c)
    in
    let here : start + (last_free before + (4 + length content)) ≡ at + (4 + length content) = omega arith in
    let behind : Chain after old (start + (last_free before + (4 + length content))) (length old) = rw here back.1 in
    let kept : Chain (front_of before) new 32 start =
    Chain-keeps (front_of before) old new 32 start l (λ i x y. below i (omega arith) y)
    (front_chain before old 32 at start s front) in
    rw (merged_freed before after segment content (4 + length content) m)
    (Chain-append (front_of before) (front_free (last_free before + (4 + length content)) after) new 32 start
    (length new) kept
    (back_chain after old new start (last_free before + (4 + length content)) total l b t above behind (omega arith)))

pub free-length : (bytes : List ℕ) (at end : ℕ) (before : List Element) (after : List Element) {free : ℕ}
    → at ≡ 32 + sizes before → Chain (before ++ Free free ∷ after) bytes 32 end → length_of bytes at ≡ free
free-length bytes at end before after e c =
    let back : Chain (Free _ ∷ after) bytes at end = rw e (Chain-back before (Free _ ∷ after) bytes 32 end c) in
    back.0.is_length

-- what is left of a multiple of 4
pub left_fours : (free n : ℕ) → free % 4 ≡ 0 → n % 4 ≡ 0 → n ≤ free → (free - n) % 4 ≡ 0
left_fours free n f g h = omega arith

pub left_least : (free n : ℕ) → free % 4 ≡ 0 → n % 4 ≡ 0 → n < free → 4 ≤ free - n
left_least free n f g h = omega arith
