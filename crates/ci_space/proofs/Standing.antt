-- The used elements of an interval by their places: what a call leaves of them.
use Rattle.std.proofs.Common.{◌≡◌, ◌≢◌, ℕ, zero, suc, ◌+◌, ◌-◌, ◌<◌, ◌≤◌, ◌⊎◌, inl, inr, Bool, true, false, List, [], ◌∷◌, ◌++◌, length, drop, slice_index, refl, sym, ap, ◌∙◌, add_assoc, append_assoc, arith, IsTrue}
use Rattle.std.proofs.lemmas.Bool.{cases_Bool}
use Rattle.std.proofs.lemmas.List.{length-append, length-drop}
use Rattle.ci_space.specs.Element.{Element, Free, Used, size, sizes, Begins, Chain, IsMerged, front_free, merged, rest_free, size_for}
use Rattle.ci_space.specs.inside.Element.{StandsAmong}
use Rattle.ci_space.specs.Interval.{kind_of, has_elements, Tiles, HasUsed, IsInterval, IsEmpty, IsUsed, HasRoom, Takes, UsedBecomes, UsedIsFreed, OthersStay}
use Rattle.ci_space.specs.Walk.{length_of, TilesFrom}
use Rattle.ci_space.proofs.Chains.{Chain-unique, Chain-end, Chain-append, least_size}
use Rattle.ci_space.proofs.Walks.{IsWhole, first-whole, size-is}
use Rattle.ci_space.proofs.Tilings.{size-bounds, used-back, used-kind, tiles-by}

-- an interval has one reading
pub Tiles-unique : (bytes : List ℕ) (xs ys : List Element) → Tiles bytes xs → Tiles bytes ys → xs ≡ ys
Tiles-unique bytes xs ys t u = elim (cases_Bool (has_elements (kind_of bytes))) as (λ _. xs ≡ ys) [
  | inl h ↦ Chain-unique xs ys bytes 32 (length bytes) (t.tiled h) (u.tiled h)
  | inr h ↦ t.untiled h ∙ sym (u.untiled h)
]

-- where elements may stand
pub stands-low : (es : List Element) (from at : ℕ) (e : Element) → StandsAmong es from at e → from ≤ at
stands-low [] from at e s = absurd s
stands-low (d ∷ es) from at e (inl s) = omega (arith, s.0)
stands-low (d ∷ es) from at e (inr s) = omega (arith, stands-low es (from + size d) at e s)

pub stands-high : (es : List Element) (from at : ℕ) (e : Element) → StandsAmong es from at e
    → at + size e ≤ from + sizes es
stands-high [] from at e s = absurd s
stands-high (d ∷ es) from at e (inl s) = omega (arith, s.0, ap size s.1)
stands-high (d ∷ es) from at e (inr s) = omega (arith, stands-high es (from + size d) at e s)

-- among lists that are joined
pub stands-left : (xs ys : List Element) (from at : ℕ) (e : Element) → StandsAmong xs from at e
    → StandsAmong (xs ++ ys) from at e
stands-left [] ys from at e s = absurd s
stands-left (d ∷ xs) ys from at e (inl s) = inl s
stands-left (d ∷ xs) ys from at e (inr s) = inr (stands-left xs ys (from + size d) at e s)

pub stands-right : (xs ys : List Element) (from at : ℕ) (e : Element) → StandsAmong ys (from + sizes xs) at e
    → StandsAmong (xs ++ ys) from at e
stands-right [] ys from at e s = let z : from + 0 ≡ from = omega arith in rw z at s
stands-right (d ∷ xs) ys from at e s = inr (stands-right xs ys (from + size d) at e
    (rw (add_assoc from (size d) (sizes xs)) s))

pub stands-apart : (xs ys : List Element) (from at : ℕ) (e : Element) → StandsAmong (xs ++ ys) from at e
    → StandsAmong xs from at e ⊎ StandsAmong ys (from + sizes xs) at e
stands-apart [] ys from at e s = let z : from + 0 ≡ from = omega arith in inr (rw z s)
stands-apart (d ∷ xs) ys from at e (inl s) = inl (inl s)
stands-apart (d ∷ xs) ys from at e (inr s) = elim (stands-apart xs ys (from + size d) at e s) as
    (λ _. StandsAmong (d ∷ xs) from at e ⊎ StandsAmong ys (from + (size d + sizes xs)) at e) [
      | inl t ↦ inl (inr t)
      | inr t ↦ inr (rw (← add_assoc from (size d) (sizes xs)) t)
    ]

-- a used element, by what stands before and behind it
pub record IsParted (es : List Element) (from at : ℕ) (e : Element) : Type 0 where
  pub before : List Element
  pub after : List Element
  pub is_whole : es ≡ before ++ e ∷ after
  pub place : at ≡ from + sizes before

parted : (es : List Element) (from at : ℕ) (e : Element) → StandsAmong es from at e → IsParted es from at e
parted [] from at e s = absurd s
parted (d ∷ es) from at e (inl s) = record {
  before = [];
  after = es;
  is_whole = ap (λ x. x ∷ es) s.1;
  place =
      omega (arith, s.0);
}
parted (d ∷ es) from at e (inr s) =
    let p : IsParted es (from + size d) at e = parted es (from + size d) at e s in
    record {
      before = d ∷ p.before;
      after = p.after;
      is_whole = ap (λ xs. d ∷ xs) p.is_whole;
      place =
          omega (arith, p.place);
    }

pub stands-used : (bytes : List ℕ) (es : List Element) (at segment : ℕ) (content : List ℕ) → Tiles bytes es
    → StandsAmong es 32 at (Used segment content) → HasUsed bytes at segment content
stands-used bytes es at segment content t s =
    let p : IsParted es 32 at (Used segment content) = parted es 32 at (Used segment content) s in
    record { before = p.before; after = p.after; tiles = rw (← p.is_whole) t; place = p.place }

pub used-stands : (bytes : List ℕ) (es : List Element) (at segment : ℕ) (content : List ℕ) → Tiles bytes es → HasUsed bytes at segment content → StandsAmong es 32 at (Used segment content)
used-stands bytes es at segment content t u =
    let same : es ≡ u.before ++ Used segment content ∷ u.after =
    Tiles-unique bytes es (u.before ++ Used segment content ∷ u.after) t u.tiles in
    rw same (stands-right u.before (Used segment content ∷ u.after) 32 at (Used segment content) (inl (u.place, refl)))

-- one element that another replaces
replaced : (before after : List Element) (d e f : Element) (from at : ℕ) → size d ≡ size e → at ≢ from + sizes before
    → StandsAmong (before ++ d ∷ after) from at f → StandsAmong (before ++ e ∷ after) from at f
replaced before after d e f from at n h s =
    elim (stands-apart before (d ∷ after) from at f s) as (λ _. StandsAmong (before ++ e ∷ after) from at f) [
      | inl t ↦ stands-left before (e ∷ after) from at f t
      | inr (inl t) ↦ absurd (h t.0)
      | inr (inr t) ↦ stands-right before (e ∷ after) from at f (inr (rw (← n) t))
    ]

pub becomes-others : (old new : List ℕ) (at : ℕ) (next : ℕ → List ℕ → Element) → IsUsed old at
    → ((segment : ℕ) (content : List ℕ) → HasUsed old at segment content
    → size (next segment content) ≡ 4 + length content) → UsedBecomes old new at next → OthersStay old new at
becomes-others old new at next u n b =
    let before : List Element = u.used.before in
    let after : List Element = u.used.after in
    let e : Element = next u.segment u.content in
    let z : size e ≡ 4 + length u.content = n u.segment u.content u.used in
    let t : Tiles new (before ++ e ∷ after) = b before after u.segment u.content u.used.place u.used.tiles in
    record {
      stay = λ place segment content h x. stands-used new (before ++ e ∷ after) place segment content t
          (replaced before after (Used u.segment u.content) e (Used segment content) 32 place (sym z)
          (λ y. h (y ∙ sym u.used.place))
          (used-stands old (before ++ Used u.segment u.content ∷ after) place segment content u.used.tiles x));
      none_comes = λ place segment content h x. stands-used old (before ++ Used u.segment u.content ∷ after) place
          segment content u.used.tiles
          (replaced before after e (Used u.segment u.content) (Used segment content) 32 place z
          (λ y. h (y ∙ sym u.used.place))
          (used-stands new (before ++ e ∷ after) place segment content t x));
    }

-- merging keeps the used ones
front_stands : (n : ℕ) (es : List Element) (from at segment : ℕ) (content : List ℕ)
    → StandsAmong (front_free n es) from at (Used segment content) → StandsAmong es (from + n) at (Used segment content)
front_stands n [] from at segment content (inl s) = absurd (let h = s.1 in cc)
front_stands n [] from at segment content (inr s) = absurd s
front_stands n (Free m ∷ es) from at segment content (inl s) = absurd (let h = s.1 in cc)
front_stands n (Free m ∷ es) from at segment content (inr s) = inr (rw (add_assoc from n m) s)
front_stands n (Used a b ∷ es) from at segment content (inl s) = absurd (let h = s.1 in cc)
front_stands n (Used a b ∷ es) from at segment content (inr s) = s

stands_front : (n : ℕ) (es : List Element) (from at segment : ℕ) (content : List ℕ)
    → StandsAmong es (from + n) at (Used segment content) → StandsAmong (front_free n es) from at (Used segment content)
stands_front n [] from at segment content s = absurd s
stands_front n (Free m ∷ es) from at segment content (inl s) = absurd (let h = s.1 in cc)
stands_front n (Free m ∷ es) from at segment content (inr s) = inr (rw (← add_assoc from n m) s)
stands_front n (Used a b ∷ es) from at segment content s = inr s

pub merged-stands : (es : List Element) (from at segment : ℕ) (content : List ℕ)
    → StandsAmong (merged es) from at (Used segment content) → StandsAmong es from at (Used segment content)
merged-stands [] from at segment content s = s
merged-stands (Free n ∷ es) from at segment content s =
    inr (merged-stands es (from + n) at segment content (front_stands n (merged es) from at segment content s))
merged-stands (Used a b ∷ es) from at segment content (inl s) = inl s
merged-stands (Used a b ∷ es) from at segment content (inr s) =
    inr (merged-stands es (from + (4 + length b)) at segment content s)

pub stands-merged : (es : List Element) (from at segment : ℕ) (content : List ℕ)
    → StandsAmong es from at (Used segment content) → StandsAmong (merged es) from at (Used segment content)
stands-merged [] from at segment content s = s
stands-merged (Free n ∷ es) from at segment content (inl s) = absurd (let h = s.1 in cc)
stands-merged (Free n ∷ es) from at segment content (inr s) =
    stands_front n (merged es) from at segment content (stands-merged es (from + n) at segment content s)
stands-merged (Used a b ∷ es) from at segment content (inl s) = inl s
stands-merged (Used a b ∷ es) from at segment content (inr s) =
    inr (stands-merged es (from + (4 + length b)) at segment content s)

pub freed-others : (old new : List ℕ) (at : ℕ) → IsUsed old at → UsedIsFreed old new at → OthersStay old new at
freed-others old new at u b =
    let before : List Element = u.used.before in
    let after : List Element = u.used.after in
    let d : Element = Used u.segment u.content in
    let e : Element = Free (4 + length u.content) in
    let t : Tiles new (merged (before ++ e ∷ after)) = b before after u.segment u.content u.used.place u.used.tiles in
    record {
      stay = λ place segment content h x. stands-used new (merged (before ++ e ∷ after)) place segment content t
          (stands-merged (before ++ e ∷ after) 32 place segment content
          (replaced before after d e (Used segment content) 32 place refl (λ y. h (y ∙ sym u.used.place))
          (used-stands old (before ++ d ∷ after) place segment content u.used.tiles x)));
      none_comes = λ place segment content h x. stands-used old (before ++ d ∷ after) place segment content u.used.tiles
          (replaced before after e d (Used segment content) 32 place refl (λ y. h (y ∙ sym u.used.place))
          (merged-stands (before ++ e ∷ after) 32 place segment content
          (used-stands new (merged (before ++ e ∷ after)) place segment content t x)));
    }

pub freed-gone : (old new : List ℕ) (at : ℕ) → IsUsed old at → UsedIsFreed old new at → IsUsed new at → ⊥
freed-gone old new at u b v =
    let before : List Element = u.used.before in
    let after : List Element = u.used.after in
    let e : Element = Free (4 + length u.content) in
    let f : Element = Used v.segment v.content in
    let t : Tiles new (merged (before ++ e ∷ after)) = b before after u.segment u.content u.used.place u.used.tiles in
    let s : StandsAmong (before ++ e ∷ after) 32 at f =
    merged-stands (before ++ e ∷ after) 32 at v.segment v.content
    (used-stands new (merged (before ++ e ∷ after)) at v.segment v.content t v.used) in
    elim (stands-apart before (e ∷ after) 32 at f s) as (λ _. ⊥) [
      | inl x ↦ omega (arith, stands-high before 32 at f x, u.used.place)
      | inr (inl x) ↦ (let h = x.1 in cc)
      | inr (inr x) ↦ omega (arith, stands-low after (32 + sizes before + (4 + length u.content)) at f x, u.used.place)
    ]

-- what a take leaves
sizes_append : (xs ys : List Element) → sizes (xs ++ ys) ≡ sizes xs + sizes ys
sizes_append [] ys = omega arith
sizes_append (d ∷ xs) ys = omega (arith, sizes_append xs ys)

sizes_rest : (k : ℕ) → sizes (rest_free k) ≡ k
sizes_rest zero = refl
sizes_rest (suc k) = omega arith

rest_used : (k from at segment : ℕ) (content : List ℕ) → StandsAmong (rest_free k) from at (Used segment content) → ⊥
rest_used zero from at segment content s = s
rest_used (suc k) from at segment content (inl s) = let h = s.1 in cc
rest_used (suc k) from at segment content (inr s) = s

pub takes-others : (old new : List ℕ) (n at : ℕ) → Takes old new n at → OthersStay old new at
takes-others old new n at t =
    let k : ℕ = t.free - size_for n in
    let d : Element = Used 0 t.content in
    let front : List Element = t.before ++ d ∷ rest_free k in
    let z : sizes front ≡ sizes t.before + t.free =
    omega (arith, sizes_append t.before (d ∷ rest_free k), sizes_rest k, t.is_size, t.holds) in
    let w : 32 + sizes front ≡ 32 + sizes t.before + t.free = omega arith in
    record {
      stay = λ place segment content h x.
          elim (stands-apart t.before (Free t.free ∷ t.after) 32 place (Used segment content)
          (used-stands old (t.before ++ Free t.free ∷ t.after) place segment content t.was x)) as
          (λ _. HasUsed new place segment content) [
            | inl y ↦ stands-used new (front ++ t.after) place segment content t.now
                (stands-left front t.after 32 place (Used segment content)
                (stands-left t.before (d ∷ rest_free k) 32 place (Used segment content) y))
            | inr (inl y) ↦ absurd (let g = y.1 in cc)
            | inr (inr y) ↦ stands-used new (front ++ t.after) place segment content t.now
                (stands-right front t.after 32 place (Used segment content) (rw w y))
          ];
      none_comes = λ place segment content h x.
          elim (stands-apart front t.after 32 place (Used segment content)
          (used-stands new (front ++ t.after) place segment content t.now x)) as
          (λ _. HasUsed old place segment content) [
            | inl y ↦ elim (stands-apart t.before (d ∷ rest_free k) 32 place (Used segment content) y) as
                (λ _. HasUsed old place segment content) [
                  | inl v ↦ stands-used old (t.before ++ Free t.free ∷ t.after) place segment content t.was
                      (stands-left t.before (Free t.free ∷ t.after) 32 place (Used segment content) v)
                  | inr (inl v) ↦ absurd (h (v.0 ∙ sym t.place))
                  | inr (inr v) ↦ absurd (rest_used k (32 + sizes t.before + (4 + length t.content)) place segment
                      content
                      v)
                ]
            | inr y ↦ stands-used old (t.before ++ Free t.free ∷ t.after) place segment content t.was
                (stands-right t.before (Free t.free ∷ t.after) 32 place (Used segment content) (inr (rw (← w) y)))
          ];
    }

-- the new element
pub takes-used : (old new : List ℕ) (n at : ℕ) (t : Takes old new n at) → HasUsed new at 0 t.content
takes-used old new n at t = record {
  before = t.before;
  after = rest_free (t.free - size_for n) ++ t.after;
  tiles = rw (← append_assoc t.before (Used 0 t.content ∷ rest_free (t.free - size_for n)) t.after) t.now;
  place = t.place;
}

pub takes-room : (old new : List ℕ) (n at : ℕ) → Takes old new n at → HasRoom new at n
takes-room old new n at t = record {
  segment = 0;
  content = t.content;
  used = takes-used old new n at t;
  fits = omega (arith, t.is_size);
}

-- nothing used stood there
pub takes-fresh : (old new : List ℕ) (n at : ℕ) → Takes old new n at → IsUsed old at → ⊥
takes-fresh old new n at t u =
    let f : Chain (Free t.free ∷ t.after) old at (length old) =
    used-back old at t.before t.after (Free t.free) t.place t.was in
    let g : Chain (Used u.segment u.content ∷ u.used.after) old at (length old) =
    used-back old at u.used.before u.used.after (Used u.segment u.content) u.used.place u.used.tiles in
    omega (arith, f.0.is_tag, g.0.0.is_tag)

-- the elements from a place on, where those before it don't reach another place
pub record WalksUpTo (bytes : List ℕ) (place at : ℕ) : Type 0 where
  pub before : List Element
  pub after : List Element
  pub done : Chain before bytes 32 place
  pub left : Chain after bytes place (length bytes)
  pub is_merged : IsMerged (before ++ after)
  pub passed : (segment : ℕ) (content : List ℕ) → StandsAmong before 32 at (Used segment content) → ⊥

pub up-begins : (bytes : List ℕ) (at : ℕ) (f : Bool) → TilesFrom bytes 32 f → WalksUpTo bytes 32 at
up-begins bytes at f t = record {
  before = [];
  after = t.elements;
  done = refl;
  left = t.chain;
  is_merged =
      t.is_merged;
  passed = λ _ _ s. s;
}

up_on : (before es : List Element) (bytes : List ℕ) (place at : ℕ) → place < at → place < length bytes
    → Chain before bytes 32 place → Chain es bytes place (length bytes)
    → IsMerged (before ++ es) → ((segment : ℕ) (content : List ℕ) → StandsAmong before 32 at (Used segment content) → ⊥)
    → WalksUpTo bytes (place + length_of bytes place) at
up_on before [] bytes place at a l d c m p = absurd (omega arith)
up_on before (e ∷ es) bytes place at a l d c m p =
    let n : length_of bytes place ≡ size e = size-is e bytes place c.0 in
    let b : 32 + sizes before ≡ place = Chain-end before bytes 32 place d in
    let q : place + size e ≡ place + length_of bytes place = omega arith in
    record {
      before = before ++ e ∷ [];
      after = es;
      done = Chain-append before (e ∷ []) bytes 32 place (place + length_of bytes place) d (c.0, q);
      left = rw n c.1;
      is_merged = rw (append_assoc before (e ∷ []) es) m;
      passed = λ segment content s. elim (stands-apart before (e ∷ []) 32 at (Used segment content) s) as (λ _. ⊥) [
        | inl t ↦ p segment content t
        | inr (inl t) ↦ omega (arith, t.0)
        | inr (inr t) ↦ t
      ];
    }

pub up-on : (bytes : List ℕ) (place at : ℕ) → place < at → place < length bytes → WalksUpTo bytes place at
    → WalksUpTo bytes (place + length_of bytes place) at
up-on bytes place at a l w = up_on w.before w.after bytes place at a l w.done w.left w.is_merged w.passed

pub up-whole : (bytes : List ℕ) (place at : ℕ) → place < length bytes → WalksUpTo bytes place at
    → IsWhole bytes place (length bytes)
up-whole bytes place at l w = first-whole w.after bytes place (length bytes) l w.left

up_used : (before es : List Element) (bytes : List ℕ) (at : ℕ) → at < length bytes → slice_index bytes (at + 2) ≡ 1
    → Chain before bytes 32 at → Chain es bytes at (length bytes)
    → IsMerged (before ++ es) → IsInterval bytes → IsTrue (has_elements (kind_of bytes)) → IsUsed bytes at
up_used before [] bytes at l t d c m i h = absurd (omega arith)
up_used before (Free n ∷ es) bytes at l t d c m i h = absurd (omega (arith, c.0.is_tag, t))
up_used before (Used segment content ∷ es) bytes at l t d c m i h = record {
  segment = segment;
  content = content;
  used = record {
    before = before;
    after = es;
    tiles = tiles-by bytes bytes i.elements (before ++ Used segment content ∷ es) i.tiles refl (λ k x y. refl) h
        (Chain-append before (Used segment content ∷ es) bytes 32 at (length bytes) d c) m;
    place = sym (Chain-end before bytes 32 at d);
  };
}

-- the walk has come to it
pub up-used : (bytes : List ℕ) (place at : ℕ) → place ≡ at → place < length bytes → slice_index bytes (place + 2) ≡ 1
    → WalksUpTo bytes place at → IsInterval bytes → IsTrue (has_elements (kind_of bytes)) → IsUsed bytes at
up-used bytes place at e l t w i h = rw (← e) (up_used w.before w.after bytes place l t w.done w.left w.is_merged i h)

-- it has gone past it, to its end, or to a free element
up_none : (before es : List Element) (bytes : List ℕ) (place at segment : ℕ) (content : List ℕ) → at ≤ place
    → Chain es bytes place (length bytes)
    → ((segment : ℕ) (content : List ℕ) → StandsAmong before 32 at (Used segment content) → ⊥)
    → (place ≡ at → place < length bytes → slice_index bytes (place + 2) ≡ 1 → ⊥)
    → 32 + sizes before ≡ place → StandsAmong (before ++ es) 32 at (Used segment content) → ⊥
up_none before [] bytes place at segment content a c p n b s =
    elim (stands-apart before [] 32 at (Used segment content) s) as (λ _. ⊥) [ inl t ↦ p segment content t | inr t ↦ t ]
up_none before (e ∷ es) bytes place at segment content a c p n b s =
    elim (stands-apart before (e ∷ es) 32 at (Used segment content) s) as (λ _. ⊥) [
      | inl t ↦ p segment content t
      | inr (inl t) ↦
          (let same : place ≡ at = omega (arith, t.0) in
          let u : Begins bytes place (4 + length content) 1 segment = (let d = rw t.1 at c.0 in d.0) in
          let l : place < length bytes = omega (
            arith,
            Chain-end es bytes (place + size e) (length bytes) c.1,
            least_size e bytes place c.0,
          ) in
          n same l u.is_tag)
      | inr (inr t) ↦ omega (
        arith,
        stands-low es (32 + sizes before + size e) at (Used segment content) t,
        least_size e bytes place c.0,
      )
    ]

pub up-none : (bytes : List ℕ) (place at : ℕ) → at ≤ place → WalksUpTo bytes place at
    → (place ≡ at → place < length bytes → slice_index bytes (place + 2) ≡ 1 → ⊥) → IsInterval bytes
    → IsTrue (has_elements (kind_of bytes)) → IsUsed bytes at → ⊥
up-none bytes place at a w n i h u =
    let t : Tiles bytes (w.before ++ w.after) = tiles-by bytes bytes i.elements (w.before ++ w.after) i.tiles refl
    (λ k x y. refl) h (Chain-append w.before w.after bytes 32 place (length bytes) w.done w.left) w.is_merged in
    up_none w.before w.after bytes place at u.segment u.content a w.left w.passed n
    (Chain-end w.before bytes 32 place w.done)
    (used-stands bytes (w.before ++ w.after) at u.segment u.content t u.used)

-- no element stands in other kinds
pub untiled-none : (bytes : List ℕ) (at : ℕ) → has_elements (kind_of bytes) ≡ false → IsUsed bytes at → ⊥
untiled-none bytes at h u =
    let k : true ≡ false = sym (used-kind bytes u.used.before u.used.after (Used u.segment u.content) u.used.tiles) ∙ h
    in
    cc

pub up-within : (bytes : List ℕ) (place at : ℕ) → WalksUpTo bytes place at → place ≤ length bytes
up-within bytes place at w = omega (arith, Chain-end w.after bytes place (length bytes) w.left)

pub room-used : (bytes : List ℕ) (at n : ℕ) → HasRoom bytes at n → IsUsed bytes at
room-used bytes at n r = record { segment = r.segment; content = r.content; used = r.used }

pub rewritten-size : (from content : List ℕ) → length from ≤ length content
    → 4 + length (from ++ drop (length from) content) ≡ 4 + length content
rewritten-size from content l = omega (
  arith,
  length-append from (drop (length from) content),
  length-drop (length from) content,
)

pub used-tag : (bytes : List ℕ) (at : ℕ) → IsUsed bytes at → slice_index bytes (at + 2) ≡ 1
used-tag bytes at u =
    let g : Chain (Used u.segment u.content ∷ u.used.after) bytes at (length bytes) =
    used-back bytes at u.used.before u.used.after (Used u.segment u.content) u.used.place u.used.tiles in
    g.0.0.is_tag

-- an empty interval
empty_in : (bytes : List ℕ) (es : List Element) → IsTrue (has_elements (kind_of bytes)) → slice_index bytes 34 ≢ 1
    → length_of bytes 32 ≡ length bytes - 32 → Tiles bytes es → IsEmpty bytes
empty_in bytes [] h t n i =
    let b : (512 ≤ length bytes) × (length bytes ≤ 4096) = size-bounds (length bytes) i.size in
    absurd (omega (arith, i.tiled h))
empty_in bytes (Used segment content ∷ es) h t n i = absurd (t (i.tiled h).0.0.is_tag)
empty_in bytes (Free k ∷ es) h t n i =
    let b : (512 ≤ length bytes) × (length bytes ≤ 4096) = size-bounds (length bytes) i.size in
    let m : k ≡ length bytes - 32 = sym (i.tiled h).0.is_length ∙ n in
    let e : 32 + k ≡ length bytes = omega arith in
    let none : es ≡ [] = Chain-unique es [] bytes (32 + k) (length bytes) (i.tiled h).1 e in
    let s : Free k ∷ es ≡ Free (length bytes - 32) ∷ [] = cc in
    rw s at i

pub empty-read : (bytes : List ℕ) → IsInterval bytes → IsTrue (has_elements (kind_of bytes)) → slice_index bytes 34 ≢ 1
    → length_of bytes 32 ≡ length bytes - 32 → IsEmpty bytes
empty-read bytes i h t n = empty_in bytes i.elements h t n i.tiles

pub empty-kind : (bytes : List ℕ) → IsEmpty bytes → IsTrue (has_elements (kind_of bytes))
empty-kind bytes t = used-kind bytes [] [] (Free (length bytes - 32)) t

pub empty-tag : (bytes : List ℕ) → IsEmpty bytes → slice_index bytes 34 ≡ 0
empty-tag bytes t = (t.tiled (empty-kind bytes t)).0.is_tag

pub empty-length : (bytes : List ℕ) → IsEmpty bytes → length_of bytes 32 ≡ length bytes - 32
empty-length bytes t = (t.tiled (empty-kind bytes t)).0.is_length

pub interval-bounds : (bytes : List ℕ) → IsInterval bytes → (512 ≤ length bytes) × (length bytes ≤ 4096)
interval-bounds bytes i = size-bounds (length bytes) i.tiles.size
