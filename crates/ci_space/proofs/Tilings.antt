-- Intervals as a whole: the head beside the elements.
use Rattle.std.proofs.Common.{◌≡◌, ◌≢◌, ℕ, zero, suc, ◌+◌, ◌-◌, ◌%◌, ◌<◌, ◌≤◌, Bool, true, false, List, [], ◌∷◌, ◌++◌, length, refl, sym, ap, ◌∙◌, append_assoc, arith, IsTrue}
use Rattle.ci_space.specs.Element.{Element, Free, Used, size, sizes, Begins, Chain, IsMerged, merged, size_for, rest_free}
use Rattle.ci_space.specs.Interval.{is_size, kind_of, has_elements, IsZero, IsHead, Tiles, IsInterval, IsUsed, Takes, IsFull}
use Rattle.ci_space.specs.Walk.{TilesFrom, length_of}
use Rattle.ci_space.specs.inside.Walk.{last_free, first_free, WalksPast, IsFirstFree, Splits, Puts}
use Rattle.ci_space.specs.Interval.{Keeps}
use Rattle.ci_space.proofs.Chains.{Chain-end, Chain-append, Chain-front, Chain-back}
use Rattle.ci_space.proofs.Walks.{IsWhole, first-whole}
use Rattle.ci_space.proofs.Splits.{frees, merged-merges}

-- an interval's size
pub size-bounds : (n : ℕ) → IsTrue (is_size n) → (512 ≤ n) × (n ≤ 4096)
size-bounds n h = grind arith

-- the head is read from the first 32 bytes
zero_keeps : (old new : List ℕ) (from to : ℕ) → to ≤ 32 → Keeps old new 0 32 → IsZero old from to → IsZero new from to
zero_keeps old new from to l k z i x y = k i (omega arith) (omega arith) ∙ z i x y

pub kind-keeps : (old new : List ℕ) → Keeps old new 0 32 → kind_of new ≡ kind_of old
kind-keeps old new k = k 0 (omega arith) (omega arith)

pub head-keeps : (old new : List ℕ) → Keeps old new 0 32 → IsHead old → IsHead new
head-keeps old new k h =
    let e : kind_of new ≡ kind_of old = kind-keeps old new k in
    record {
      kind = rw e h.kind;
      spare = zero_keeps old new 1 4 (omega arith) k h.spare;
      root = λ a. zero_keeps old new 4 14 (omega arith) k (h.root (λ b. a (e ∙ b)));
      between = zero_keeps old new 14 16 (omega arith) k h.between;
      link = λ a b. zero_keeps old new 16 24 (omega arith) k (h.link (λ c. a (e ∙ c)) (λ c. b (e ∙ c)));
      owner = λ a. zero_keeps old new 24 32 (omega arith) k (h.owner (λ b. a (e ∙ b)));
    }

-- other elements behind the same head
not_control : (kind : ℕ) → IsTrue (has_elements kind) → kind ≢ 1
not_control kind h e = let f = rw e at h in let g : false ≡ true = f in cc

pub tiles-by : (old new : List ℕ) (es fs : List Element) → Tiles old es → length new ≡ length old → Keeps old new 0 32
    → IsTrue (has_elements (kind_of old))
    → Chain fs new 32 (length new) → IsMerged fs → Tiles new fs
tiles-by old new es fs t l k h c m =
    let e : kind_of new ≡ kind_of old = kind-keeps old new k in
    record {
      size = rw l t.size;
      head = head-keeps old new k t.head;
      tiled = λ _. c;
      is_merged = m;
      untiled = λ f. let g : true ≡ false = sym h ∙ ap has_elements (sym e) ∙ f in cc;
      control = λ f. absurd (not_control (kind_of old) h (sym e ∙ f));
    }

-- an interval with a used element is of a kind that has elements
some_element : (before after : List Element) (e : Element) → before ++ e ∷ after ≢ []
some_element [] after e h = cc
some_element (d ∷ es) after e h = cc

tiled_if : (b : Bool) (es : List Element) → (b ≡ false → es ≡ []) → es ≢ [] → IsTrue b
tiled_if true es f g = refl
tiled_if false es f g = absurd (g (f refl))

pub used-kind : (bytes : List ℕ) (before after : List Element) (e : Element) → Tiles bytes (before ++ e ∷ after) → IsTrue (has_elements (kind_of bytes))
used-kind bytes before after e t = tiled_if (has_elements (kind_of bytes)) (before ++ e ∷ after) t.untiled
    (some_element before after e)

pub used-chain : (bytes : List ℕ) (before after : List Element) (e : Element) → Tiles bytes (before ++ e ∷ after) → Chain (before ++ e ∷ after) bytes 32 (length bytes)
used-chain bytes before after e t = t.tiled (used-kind bytes before after e t)

pub used-front : (bytes : List ℕ) (at : ℕ) (before after : List Element) (e : Element) → at ≡ 32 + sizes before → Tiles bytes (before ++ e ∷ after) → Chain before bytes 32 at
used-front bytes at before after e p t = rw p (Chain-front before (e ∷ after) bytes 32 (length bytes)
    (used-chain bytes before after e t))

pub used-back : (bytes : List ℕ) (at : ℕ) (before after : List Element) (e : Element) → at ≡ 32 + sizes before → Tiles bytes (before ++ e ∷ after) → Chain (e ∷ after) bytes at (length bytes)
used-back bytes at before after e p t = rw p (Chain-back before (e ∷ after) bytes 32 (length bytes)
    (used-chain bytes before after e t))

-- a used element is whole, and its length is read
pub used-whole : (bytes : List ℕ) (at : ℕ) → IsUsed bytes at → IsWhole bytes at (length bytes)
used-whole bytes at u =
    let back : Chain (Used u.segment u.content ∷ u.used.after) bytes at (length bytes) =
    used-back bytes at u.used.before u.used.after (Used u.segment u.content) u.used.place u.used.tiles in
    let e : at + (4 + length u.content) + sizes u.used.after ≡ length bytes =
    Chain-end u.used.after bytes (at + (4 + length u.content)) (length bytes) back.1 in
    first-whole (Used u.segment u.content ∷ u.used.after) bytes at (length bytes) (omega arith) back

-- free bytes beside an element
last_fours : (es : List Element) (bytes : List ℕ) (at end : ℕ) → Chain es bytes at end → last_free es % 4 ≡ 0
last_fours [] bytes at end c = refl
last_fours (Free n ∷ []) bytes at end c = c.0.fours
last_fours (Used segment content ∷ []) bytes at end c = refl
last_fours (d ∷ f ∷ es) bytes at end c = last_fours (f ∷ es) bytes (at + size d) end c.1

first_fours : (es : List Element) (bytes : List ℕ) (at end : ℕ) → Chain es bytes at end → first_free es % 4 ≡ 0
first_fours [] bytes at end c = refl
first_fours (Free n ∷ es) bytes at end c = c.0.fours
first_fours (Used segment content ∷ es) bytes at end c = refl

last_within : (es : List Element) → last_free es ≤ sizes es
last_within [] = omega arith
last_within (Free n ∷ []) = omega arith
last_within (Used segment content ∷ []) = omega arith
last_within (d ∷ f ∷ es) = omega (arith, last_within (f ∷ es))

first_within : (es : List Element) → first_free es ≤ sizes es
first_within [] = omega arith
first_within (Free n ∷ es) = omega arith
first_within (Used segment content ∷ es) = omega arith

three_fours : (a b c : ℕ) → a % 4 ≡ 0 → b % 4 ≡ 0 → c % 4 ≡ 0 → (a + b + c) % 4 ≡ 0
three_fours a b c x y z = omega arith

-- what becomes one free element where a used one is freed
pub record IsFreed (bytes : List ℕ) (start end total : ℕ) : Type 0 where
  pub low : 32 ≤ start
  pub order : start ≤ end
  pub fits : end - start < 65536
  pub room : start + 4 ≤ length bytes
  pub whole : end - start ≡ total
  pub least : 4 ≤ end - start
  pub fours : (end - start) % 4 ≡ 0

pub freed : (bytes : List ℕ) (at start end : ℕ) (before after : List Element) (segment : ℕ) (content : List ℕ)
    → at ≡ 32 + sizes before
    → Tiles bytes (before ++ Used segment content ∷ after) → start + last_free before ≡ at
    → end ≡ at + (4 + length content) + first_free after
    → IsFreed bytes start end (last_free before + (4 + length content) + first_free after)
freed bytes at start end before after segment content p t s e =
    let front : Chain before bytes 32 at = used-front bytes at before after (Used segment content) p t in
    let back : Chain (Used segment content ∷ after) bytes at (length bytes) =
    used-back bytes at before after (Used segment content) p t in
    let all : at + (4 + length content) + sizes after ≡ length bytes =
    Chain-end after bytes (at + (4 + length content)) (length bytes) back.1 in
    let lw : last_free before ≤ sizes before = last_within before in
    let fw : first_free after ≤ sizes after = first_within after in
    let b : (512 ≤ length bytes) × (length bytes ≤ 4096) = size-bounds (length bytes) t.size in
    let w : end - start ≡ last_free before + (4 + length content) + first_free after = omega arith in
    record {
      low = omega arith;
      order = omega arith;
      fits = omega arith;
      room = omega arith;
      whole = w;
      least = omega arith;
      fours = rw w (three_fours (last_free before) (4 + length content) (first_free after)
          (last_fours before bytes 32 at front) back.0.0.fours
          (first_fours after bytes (at + (4 + length content)) (length bytes) back.1));
    }

-- the same where the ends are found by walks
pub freed-between : (bytes : List ℕ) (at start end n : ℕ) (before after : List Element) (segment : ℕ) (content : List ℕ)
    → at ≡ 32 + sizes before
    → Tiles bytes (before ++ Used segment content ∷ after) → n ≡ length_of bytes at
    → ((before : List Element) → Chain before bytes 32 at → start + last_free before ≡ at)
    → ((after : List Element) → Chain after bytes (at + n) (length bytes) → end ≡ at + n + first_free after)
    → IsFreed bytes start end (last_free before + (4 + length content) + first_free after)
freed-between bytes at start end n before after segment content p t l s e =
    let back : Chain (Used segment content ∷ after) bytes at (length bytes) =
    used-back bytes at before after (Used segment content) p t in
    let m : n ≡ 4 + length content = l ∙ back.0.0.is_length in
    let there : end ≡ at + n + first_free after = e after (rw m back.1) in
    freed bytes at start end before after segment content p t
    (s before (used-front bytes at before after (Used segment content) p t))
    (there ∙ ap (λ k. at + k + first_free after) m)

pub freed-used : (bytes : List ℕ) (at start end n : ℕ) (u : IsUsed bytes at) → n ≡ length_of bytes at
    → ((before : List Element) → Chain before bytes 32 at → start + last_free before ≡ at)
    → ((after : List Element) → Chain after bytes (at + n) (length bytes) → end ≡ at + n + first_free after)
    → IsFreed bytes start end (last_free u.used.before + (4 + length u.content) + first_free u.used.after)
freed-used bytes at start end n u = freed-between bytes at start end n u.used.before u.used.after u.segment u.content
    u.used.place u.used.tiles

-- freeing a used element
pub frees-used : (old new : List ℕ) (at start end n : ℕ) (before after : List Element) (segment : ℕ) (content : List ℕ)
    → at ≡ 32 + sizes before
    → Tiles old (before ++ Used segment content ∷ after) → n ≡ length_of old at
    → ((before : List Element) → Chain before old 32 at → start + last_free before ≡ at)
    → ((after : List Element) → Chain after old (at + n) (length old) → end ≡ at + n + first_free after)
    → length new ≡ length old → Puts old new start (end - start) 0
    → Tiles new (merged (before ++ Free (4 + length content) ∷ after))
frees-used old new at start end n before after segment content p t m s e l puts =
    let f : IsFreed old start end (last_free before + (4 + length content) + first_free after) =
    freed-between old at start end n before after segment content p t m s e in
    let low : 32 ≤ start = f.low in
    let b : Begins new start (end - start) 0 0 = record {
      is_length = puts.is_length;
      is_tag = puts.is_tag;
      is_segment =
          puts.is_segment;
      least = f.least;
      fours = f.fours;
    } in
    tiles-by old new (before ++ Used segment content ∷ after) (merged (before ++ Free (4 + length content) ∷ after)) t l
    (λ k x y. puts.below k x (omega arith))
    (used-kind old before after (Used segment content) t)
    (frees old new at start (end - start) before after segment content l p
    (s before (used-front old at before after (Used segment content) p t))
    (used-chain old before after (Used segment content) t) t.is_merged b f.whole puts.below puts.above)
    (merged-merges (before ++ Free (4 + length content) ∷ after))

-- what a take leaves is merged
taken_merged : (before after : List Element) (free k : ℕ) (content : List ℕ) → IsMerged (before ++ Free free ∷ after)
    → IsMerged (before ++ (Used 0 content ∷ rest_free k ++ after))
taken_merged [] after free zero content m = m.1
taken_merged [] after free (suc k) content m = m
taken_merged (Free n ∷ []) after free k content m = absurd m.0
taken_merged (Free n ∷ Free i ∷ es) after free k content m = absurd m.0
taken_merged (Free n ∷ Used s c ∷ es) after free k content m =
    (tt, taken_merged (Used s c ∷ es) after free k content m.1)
taken_merged (Used s c ∷ es) after free k content m = taken_merged es after free k content m

-- what the walk finds, in an interval
merged_front : (xs ys : List Element) → IsMerged (xs ++ ys) → IsMerged xs
merged_front [] ys m = tt
merged_front (Free n ∷ []) ys m = (tt, tt)
merged_front (Free n ∷ Free i ∷ es) ys m = absurd m.0
merged_front (Free n ∷ Used s c ∷ es) ys m = (tt, merged_front (Used s c ∷ es) ys m.1)
merged_front (Used s c ∷ es) ys m = merged_front es ys m

pub walked-full : (bytes : List ℕ) (n size : ℕ) → size ≡ size_for n → IsInterval bytes
    → IsTrue (has_elements (kind_of bytes)) → WalksPast bytes size (length bytes) → IsFull bytes n
walked-full bytes n size e i h w = record {
  elements = w.before;
  tiles = tiles-by bytes bytes i.elements w.before i.tiles refl (λ k x y. refl) h w.done
      (merged_front w.before w.after w.is_merged);
  smaller = rw (← e) w.smaller;
}

-- and the interval with the element that it finds
pub found-tiles : (bytes : List ℕ) (n at : ℕ) → IsInterval bytes → IsTrue (has_elements (kind_of bytes))
    → (f : IsFirstFree bytes n at) → Tiles bytes (f.past.before ++ Free f.free ∷ f.behind)
found-tiles bytes n at i h f =
    let left = rw f.is_free at f.past.left in
    let merged = rw f.is_free at f.past.is_merged in
    tiles-by bytes bytes i.elements (f.past.before ++ Free f.free ∷ f.behind) i.tiles refl (λ k x y. refl) h
    (Chain-append f.past.before (Free f.free ∷ f.behind) bytes 32 at (length bytes) f.past.done left)
    merged

pub found-place : (bytes : List ℕ) (n at : ℕ) → (f : IsFirstFree bytes n at) → at ≡ 32 + sizes f.past.before
found-place bytes n at f = sym (Chain-end f.past.before bytes 32 at f.past.done)

pub found-whole : (bytes : List ℕ) (n at : ℕ) → IsFirstFree bytes n at → IsWhole bytes at (length bytes)
found-whole bytes n at f =
    let c : Chain (Free f.free ∷ f.behind) bytes at (length bytes) = (rw f.is_free at f.past.left) in
    let e : at + f.free + sizes f.behind ≡ length bytes = Chain-end f.behind bytes (at + f.free) (length bytes) c.1 in
    let l : 4 ≤ f.free = c.0.least in
    first-whole (Free f.free ∷ f.behind) bytes at (length bytes) (omega arith) c

pub takes : (old new : List ℕ) (n size at : ℕ) → size ≡ size_for n → IsInterval old
    → IsTrue (has_elements (kind_of old)) → (f : IsFirstFree old size at) → length new ≡ length old
    → Keeps old new 0 32 → Splits old new size at → Takes old new n at
takes old new n size at e i h f l k s =
    let was : Tiles old (f.past.before ++ Free f.free ∷ f.behind) = found-tiles old size at i h f in
    let p : at ≡ 32 + sizes f.past.before = found-place old size at f in
    let done = s f.past.before f.behind f.free p f.holds (was.tiled h) in
    record {
      before = f.past.before;
      free = f.free;
      after = f.behind;
      content = done.0;
      was = was;
      smaller = rw (← e) f.past.smaller;
      holds = rw (← e) f.holds;
      place = p;
      is_size = done.1 ∙ e;
      now = rw (← e) (tiles-by old new (f.past.before ++ Free f.free ∷ f.behind)
          (f.past.before ++ Used 0 done.0 ∷ rest_free (f.free - size) ++ f.behind) was l k h done.2
          (rw (append_assoc f.past.before (Used 0 done.0 ∷ rest_free (f.free - size)) f.behind)
          (taken_merged f.past.before f.behind f.free (f.free - size) done.0 was.is_merged)));
    }

pub found-fits : (bytes : List ℕ) (n at : ℕ) → IsInterval bytes → IsFirstFree bytes n at → at < 65536
found-fits bytes n at i f =
    let w : IsWhole bytes at (length bytes) = found-whole bytes n at f in
    let b : (512 ≤ length bytes) × (length bytes ≤ 4096) = size-bounds (length bytes) i.tiles.size in
    omega arith

pub interval-tiled : (bytes : List ℕ) → IsInterval bytes → IsTrue (has_elements (kind_of bytes))
    → TilesFrom bytes 32 false
interval-tiled bytes i h = record {
  elements = i.elements;
  chain = i.tiles.tiled h;
  is_merged =
      i.tiles.is_merged;
  apart = λ b. absurd (cc);
}
