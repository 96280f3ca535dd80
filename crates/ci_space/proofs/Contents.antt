-- A used element that is read, and one that is written.
use Rattle.std.proofs.Common.{◌≡◌, ◌≢◌, ℕ, suc, ◌+◌, ◌-◌, ◌<◌, ◌≤◌, List, [], ◌∷◌, ◌++◌, length, get_or, set, take, drop, slice_index, slice_range, refl, sym, ap, ◌∙◌, append_assoc, arith}
use Rattle.std.proofs.lemmas.List.{get_or-set_same, get_or-set_other, length-set, length-append, length-take-le, length-drop, drop-drop, drop-take, drop_at, take_at}
use borrow.Rule.Slice.PartMut.{put_mid}
use Rattle.ci_space.specs.Element.{Element, Free, Used, sizes, Begins, StandsAt, Chain, IsMerged}
use Rattle.ci_space.specs.Interval.{Keeps, Tiles, HasUsed, IsUsed, HasRoom, UsedBecomes, written}
use Rattle.ci_space.specs.Walk.{length_of}
use Rattle.ci_space.proofs.Chains.{Chain-append, Chain-end, Chain-keeps, Begins-keeps, range-keeps}
use Rattle.ci_space.proofs.Tilings.{size-bounds, used-whole, used-front, used-back, used-kind, tiles-by}
use Rattle.ci_space.proofs.Walks.{IsWhole}
use Rattle.ci_space.proofs.Places.{middle-below, middle-above}

pub used-length : (bytes : List ℕ) (at segment : ℕ) (content : List ℕ) → HasUsed bytes at segment content → length_of bytes at ≡ 4 + length content
used-length bytes at segment content u = (used-back bytes at u.before u.after (Used segment content) u.place
    u.tiles).0.0.is_length

pub used-type : (bytes : List ℕ) (at segment : ℕ) (content : List ℕ) → HasUsed bytes at segment content → slice_index bytes (at + 3) ≡ segment
used-type bytes at segment content u = (used-back bytes at u.before u.after (Used segment content) u.place
    u.tiles).0.0.is_segment

pub used-content : (bytes : List ℕ) (at n segment : ℕ) (content : List ℕ) → n ≡ length_of bytes at → HasUsed bytes at segment content → slice_range bytes (at + 4) (at + n) ≡ content
used-content bytes at n segment content e u =
    let m : at + n ≡ at + 4 + length content = omega (arith, used-length bytes at segment content u) in
    ap (λ k. slice_range bytes (at + 4) k) m ∙ (used-back bytes at u.before u.after (Used segment content) u.place
    u.tiles).0.1

pub used-ends : (bytes : List ℕ) (at segment : ℕ) (content : List ℕ) → HasUsed bytes at segment content → at + 4 + length content ≤ length bytes
used-ends bytes at segment content u =
    let back : Chain (Used segment content ∷ u.after) bytes at (length bytes) =
    used-back bytes at u.before u.after (Used segment content) u.place u.tiles in
    omega (arith, Chain-end u.after bytes (at + (4 + length content)) (length bytes) back.1)

merged_same : (before after : List Element) (segment other : ℕ) (content more : List ℕ)
    → IsMerged (before ++ Used segment content ∷ after) → IsMerged (before ++ Used other more ∷ after)
merged_same [] after segment other content more m = m
merged_same (Free n ∷ []) after segment other content more m = m
merged_same (Free n ∷ Free i ∷ es) after segment other content more m = absurd m.0
merged_same (Free n ∷ Used s c ∷ es) after segment other content more m =
    (tt, merged_same (Used s c ∷ es) after segment other content more m.1)
merged_same (Used s c ∷ es) after segment other content more m = merged_same es after segment other content more m

-- a used element that becomes another of its size
pub becomes : (old new : List ℕ) (at : ℕ) (before after : List Element) (segment other : ℕ) (content more : List ℕ)
    → at ≡ 32 + sizes before
    → Tiles old (before ++ Used segment content ∷ after) → length new ≡ length old → Keeps old new 0 at
    → Keeps old new (at + (4 + length content)) (length old)
    → length more ≡ length content → StandsAt new at (Used other more) → Tiles new (before ++ Used other more ∷ after)
becomes old new at before after segment other content more p t l below above m s =
    let front : Chain before old 32 at = used-front old at before after (Used segment content) p t in
    let back : Chain (Used segment content ∷ after) old at (length old) =
    used-back old at before after (Used segment content) p t in
    let kept : Chain before new 32 at = Chain-keeps before old new 32 at l (λ i x y. below i (omega arith) y) front in
    let behind : Chain after new (at + (4 + length content)) (length new) =
    rw l (Chain-keeps after old new (at + (4 + length content)) (length old) l above back.1) in
    let n : at + (4 + length more) ≡ at + (4 + length content) = omega arith in
    tiles-by old new (before ++ Used segment content ∷ after) (before ++ Used other more ∷ after) t l
    (λ k x y. below k x (omega arith))
    (used-kind old before after (Used segment content) t)
    (Chain-append before (Used other more ∷ after) new 32 at (length new) kept (s, rw n behind))
    (merged_same before after segment other content more t.is_merged)

-- its segment type is set
pub type-becomes : (old : List ℕ) (at other : ℕ) → UsedBecomes old (set old (at + 3) other) at
    (λ _ content. Used other content)
type-becomes old at other = λ before after segment content p t.
    let back : Chain (Used segment content ∷ after) old at (length old) =
    used-back old at before after (Used segment content) p t in
    let ends : at + (4 + length content) + sizes after ≡ length old =
    Chain-end after old (at + (4 + length content)) (length old) back.1 in
    let l : length (set old (at + 3) other) ≡ length old = length-set old (at + 3) other in
    let keeps : (k : ℕ) → k ≢ at + 3 → get_or (set old (at + 3) other) k 0 ≡ get_or old k 0 =
    λ k h. get_or-set_other old (at + 3) k other 0 h in
    let b : Begins old at (4 + length content) 1 segment = back.0.0 in
    let c : Begins (set old (at + 3) other) at (4 + length content) 1 other = record {
      is_length = rw (keeps at (omega arith), keeps (at + 1) (omega arith)) b.is_length;
      is_tag = keeps (at + 2) (omega arith) ∙ b.is_tag;
      is_segment = get_or-set_same old (at + 3) other 0 (omega arith);
      least = b.least;
      fours = b.fours;
    } in
    let r : slice_range (set old (at + 3) other) (at + 4) (at + 4 + length content) ≡ content =
    range-keeps old (set old (at + 3) other) (at + 4) (at + 4 + length content) l (λ k x y. keeps k (omega arith)) ∙
    back.0.1 in
    becomes old (set old (at + 3) other) at before after segment other content content p t l
    (λ k x y. keeps k (omega arith)) (λ k x y. keeps k (omega arith)) refl (c, r)

-- bytes are put in the place of others
pub put-written : (old from : List ℕ) (at end : ℕ) → end ≡ at + length from
    → put_mid at (end - at) old from ≡ written old at from
put-written old from at end e =
    let k : end - at ≡ length from = omega arith in
    rw (k, drop-drop (length from) at old, append_assoc (take at old) from (drop (at + length from) old)) refl

pub written-below : (old from : List ℕ) (at k : ℕ) → at ≤ length old → k < at
    → get_or (written old at from) k 0 ≡ get_or old k 0
written-below old from at k l h = rw (append_assoc (take at old) from (drop (at + length from) old))
    (middle-below old from (drop (at + length from) old) at k l h)

pub written-above : (old from : List ℕ) (at k : ℕ) → at ≤ length old → at + length from ≤ k
    → get_or (written old at from) k 0 ≡ get_or old k 0
written-above old from at k l h = rw (append_assoc (take at old) from (drop (at + length from) old))
    (middle-above old from at (length from) k l refl h)

pub length-written : (old from : List ℕ) (at : ℕ) → at + length from ≤ length old
    → length (written old at from) ≡ length old
length-written old from at l =
    simp (length-append, length-drop) (let t : length (take at old) ≡ at = length-take-le at old (omega arith) in
    omega arith)

take_past : (xs ys : List ℕ) (m : ℕ) → take (length xs + m) (xs ++ ys) ≡ xs ++ take m ys
take_past [] ys m = ap (λ k. take k ys) (omega arith)
take_past (x ∷ xs) ys m = let e : length (x ∷ xs) + m ≡ suc (length xs + m) = omega arith in
    ap (λ k. take k (x ∷ xs ++ ys)) e ∙ ap (λ zs. x ∷ zs) (take_past xs ys m)

-- what is read where bytes were put
pub range-written : (old from : List ℕ) (at n : ℕ) → at + n ≤ length old → length from ≤ n
    → slice_range (written old at from) at (at + n) ≡ from ++ drop (length from) (slice_range old at (at + n))
range-written old from at n l h =
    let t : length (take at old) ≡ at = length-take-le at old (omega arith) in
    let d : drop at (take at old ++ (from ++ drop (at + length from) old)) ≡ from ++ drop (at + length from) old =
    drop_at (take at old) (from ++ drop (at + length from) old) at t in
    let k : at + n - at ≡ length from + (n - length from) = omega arith in
    let w : written old at from ≡ take at old ++ (from ++ drop (at + length from) old) =
    append_assoc (take at old) from (drop (at + length from) old) in
    let x : slice_range (written old at from) at (at + n) ≡ from ++ take (n - length from) (drop (at + length from) old)
    =
    ap (λ zs. take (at + n - at) (drop at zs)) w ∙ ap (λ zs. take (at + n - at) zs) d ∙ ap
    (λ i. take i (from ++ drop (at + length from) old)) k
    ∙ take_past from (drop (at + length from) old) (n - length from) in
    let y : drop (length from) (slice_range old at (at + n)) ≡ take (n - length from) (drop (at + length from) old) =
    ap (λ i. drop (length from) (take i (drop at old))) k ∙ drop-take (length from) (n - length from) (drop at old)
    ∙ ap (λ zs. take (n - length from) zs) (drop-drop (length from) at old) in
    x ∙ ap (λ zs. from ++ zs) (sym y)

-- the first bytes of its content are written
pub content-becomes : (old from : List ℕ) (at : ℕ) → HasRoom old at (length from)
    → ((segment : ℕ) (content : List ℕ) → HasUsed old at segment content → length from ≤ length content)
    → UsedBecomes old (written old (at + 4) from) at
    (λ segment content. Used segment (from ++ drop (length from) content))
content-becomes old from at room fits = λ before after segment content p t.
    let u : HasUsed old at segment content = record { before = before; after = after; tiles = t; place = p } in
    let f : length from ≤ length content = fits segment content u in
    let e : at + 4 + length content ≤ length old = used-ends old at segment content u in
    let back : Chain (Used segment content ∷ after) old at (length old) =
    used-back old at before after (Used segment content) p t in
    let l : length (written old (at + 4) from) ≡ length old = length-written old from (at + 4) (omega arith) in
    let m : length (from ++ drop (length from) content) ≡ length content =
    omega (arith, length-append from (drop (length from) content), length-drop (length from) content) in
    let b : Begins (written old (at + 4) from) at (4 + length content) 1 segment =
    Begins-keeps old (written old (at + 4) from) at (4 + length content) 1 segment
    (λ k x y. written-below old from (at + 4) k (omega arith) y) back.0.0 in
    let r : slice_range (written old (at + 4) from) (at + 4) (at + 4 + length content) ≡ from ++ drop (length from)
    content =
    range-written old from (at + 4) (length content) e f ∙ ap (λ zs. from ++ drop (length from) zs) back.0.1 in
    becomes old (written old (at + 4) from) at before after segment segment content (from ++ drop (length from) content)
    p t l
    (λ k x y. written-below old from (at + 4) k (omega arith) (omega arith))
    (λ k x y. written-above old from (at + 4) k (omega arith) (omega arith))
    m (rw m b, rw m r)

-- all readings of a used element have one length
pub room-fits : (old : List ℕ) (at n : ℕ) → HasRoom old at n → (segment : ℕ) (content : List ℕ)
    → HasUsed old at segment content → n ≤ length content
room-fits old at n room segment content u =
    let a : length_of old at ≡ 4 + length content = used-length old at segment content u in
    let b : length_of old at ≡ 4 + length room.content = used-length old at room.segment room.content room.used in
    omega (arith, room.fits)

-- where a used element stands
pub record IsWithin (bytes : List ℕ) (at n : ℕ) : Type 0 where
  pub low : 32 ≤ at
  pub four : at + 4 ≤ length bytes
  pub least : 4 ≤ length_of bytes at
  pub within : at + length_of bytes at ≤ length bytes
  pub room : at + 4 + n ≤ length bytes
  pub limit : length bytes ≤ 4096

pub used-within : (bytes : List ℕ) (at : ℕ) → IsUsed bytes at → IsWithin bytes at 0
used-within bytes at u =
    let w : IsWhole bytes at (length bytes) = used-whole bytes at u in
    let b : (512 ≤ length bytes) × (length bytes ≤ 4096) = size-bounds (length bytes) u.used.tiles.size in
    record {
      low = omega (arith, u.used.place);
      four = w.room;
      least = w.least;
      within = w.within;
      room =
          omega arith;
      limit = b.1;
    }

pub room-within : (bytes : List ℕ) (at n : ℕ) → HasRoom bytes at n → IsWithin bytes at n
room-within bytes at n r =
    let u : IsUsed bytes at = record { segment = r.segment; content = r.content; used = r.used } in
    let w : IsWhole bytes at (length bytes) = used-whole bytes at u in
    let b : (512 ≤ length bytes) × (length bytes ≤ 4096) = size-bounds (length bytes) u.used.tiles.size in
    let e : at + 4 + length r.content ≤ length bytes = used-ends bytes at r.segment r.content r.used in
    record {
      low = omega (arith, r.used.place);
      four = w.room;
      least = w.least;
      within = w.within;
      room =
          omega (arith, r.fits);
      limit = b.1;
    }

-- the bytes of a Vec after a call that was passed them all
pub whole-again : (new old : List ℕ) (n : ℕ) → length new ≡ n → take n (new ++ drop (length new) old) ≡ new
whole-again new old n e = take_at new (drop (length new) old) n e
