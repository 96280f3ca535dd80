-- Elements one behind the other: where they end, how they join, what keeps them, and that there is one reading.
use Rattle.std.proofs.Common.{◌≡◌, ℕ, ◌+◌, ◌-◌, ◌<◌, ◌≤◌, List, [], ◌∷◌, ◌++◌, length, get_or, drop, slice_range, refl, sym, ap, ◌∙◌, add_assoc, arith}
use Rattle.std.proofs.lemmas.List.{ext_get_or, get_or-take, get_or-drop, length-take, length-drop}
use Rattle.ci_space.specs.Element.{Element, Free, Used, size, sizes, Begins, StandsAt, Chain}
use Rattle.ci_space.specs.Interval.{Keeps}

-- where they end
pub Chain-end : (es : List Element) (bytes : List ℕ) (at end : ℕ) → Chain es bytes at end → at + sizes es ≡ end
Chain-end [] bytes at end c = omega arith
Chain-end (e ∷ es) bytes at end c = let r : at + size e + sizes es ≡ end = Chain-end es bytes (at + size e) end c.1 in
    omega arith

-- joined, and apart
pub Chain-append : (xs ys : List Element) (bytes : List ℕ) (at mid end : ℕ) → Chain xs bytes at mid
    → Chain ys bytes mid end → Chain (xs ++ ys) bytes at end
Chain-append [] ys bytes at mid end c d = rw c d
Chain-append (e ∷ es) ys bytes at mid end c d = (c.0, Chain-append es ys bytes (at + size e) mid end c.1 d)

pub Chain-front : (xs ys : List Element) (bytes : List ℕ) (at end : ℕ) → Chain (xs ++ ys) bytes at end
    → Chain xs bytes at (at + sizes xs)
Chain-front [] ys bytes at end c = omega arith
Chain-front (e ∷ es) ys bytes at end c = (
  c.0,
  rw (← add_assoc at (size e) (sizes es))
      (Chain-front es ys bytes (at + size e) end c.1),
)

pub Chain-back : (xs ys : List Element) (bytes : List ℕ) (at end : ℕ) → Chain (xs ++ ys) bytes at end
    → Chain ys bytes (at + sizes xs) end
Chain-back [] ys bytes at end c = let e : at + 0 ≡ at = omega arith in rw e c
Chain-back (e ∷ es) ys bytes at end c = rw (← add_assoc at (size e) (sizes es))
    (Chain-back es ys bytes (at + size e) end c.1)

-- what keeps them
pub Begins-keeps : (old new : List ℕ) (at n tag segment : ℕ) → Keeps old new at (at + 4) → Begins old at n tag segment
    → Begins new at n tag segment
Begins-keeps old new at n tag segment k b =
    let e0 : get_or new at 0 ≡ get_or old at 0 = k at (omega arith) (omega arith) in
    let e1 : get_or new (at + 1) 0 ≡ get_or old (at + 1) 0 = k (at + 1) (omega arith) (omega arith) in
    let e2 : get_or new (at + 2) 0 ≡ get_or old (at + 2) 0 = k (at + 2) (omega arith) (omega arith) in
    let e3 : get_or new (at + 3) 0 ≡ get_or old (at + 3) 0 = k (at + 3) (omega arith) (omega arith) in
    record {
      is_length = rw (e0, e1) b.is_length;
      is_tag = e2 ∙ b.is_tag;
      is_segment = e3 ∙ b.is_segment;
      least = b.least;
      fours = b.fours;
    }

pub range-keeps : (old new : List ℕ) (from to : ℕ) → length new ≡ length old → Keeps old new from to
    → slice_range new from to ≡ slice_range old from to
range-keeps old new from to l k =
    ext_get_or 0 (slice_range new from to) (slice_range old from to)
    (simp (length-take, length-drop, l))
    (λ i h.
    let b : i < to - from = omega (arith, length-take (to - from) (drop from new)) in
    get_or-take (to - from) (drop from new) i 0 b ∙ get_or-drop from new i 0
    ∙ k (from + i) (omega arith) (omega arith)
    ∙ sym (get_or-take (to - from) (drop from old) i 0 b ∙ get_or-drop from old i 0))

pub StandsAt-keeps : (e : Element) (old new : List ℕ) (at : ℕ) → length new ≡ length old
    → Keeps old new at (at + size e) → StandsAt old at e → StandsAt new at e
StandsAt-keeps (Free n) old new at l k s = Begins-keeps old new at n 0 0 (λ i a b. k i a (omega (arith, s.least))) s
StandsAt-keeps (Used segment content) old new at l k s = (
  Begins-keeps old new at (4 + length content) 1 segment (λ i a b. k i a (omega arith)) s.0,
  range-keeps old new (at + 4) (at + 4 + length content) l (λ i a b. k i (omega arith) (omega arith)) ∙ s.1,
)

pub Chain-keeps : (es : List Element) (old new : List ℕ) (at end : ℕ) → length new ≡ length old → Keeps old new at end
    → Chain es old at end → Chain es new at end
Chain-keeps [] old new at end l k c = c
Chain-keeps (e ∷ es) old new at end l k c =
    let r : at + size e + sizes es ≡ end = Chain-end es old (at + size e) end c.1 in (
      StandsAt-keeps e old new at l (λ i a b. k i a (omega arith)) c.0,
      Chain-keeps es old new (at + size e) end l (λ i a b. k i (omega arith) b) c.1,
    )

-- one reading
pub StandsAt-unique : (e f : Element) (bytes : List ℕ) (at : ℕ) → StandsAt bytes at e → StandsAt bytes at f → e ≡ f
StandsAt-unique (Free n) (Free m) bytes at s t = ap Free (sym s.is_length ∙ t.is_length)
StandsAt-unique (Free n) (Used segment content) bytes at s t = absurd (omega (arith, s.is_tag, t.0.is_tag))
StandsAt-unique (Used segment content) (Free m) bytes at s t = absurd (omega (arith, s.0.is_tag, t.is_tag))
StandsAt-unique (Used segment content) (Used other more) bytes at s t =
    let n : length content ≡ length more = omega (arith, s.0.is_length, t.0.is_length) in
    let c : content ≡ more = sym s.1 ∙ ap (λ k. slice_range bytes (at + 4) (at + 4 + k)) n ∙ t.1 in
    let g : segment ≡ other = sym s.0.is_segment ∙ t.0.is_segment in
    cc

pub least_size : (e : Element) (bytes : List ℕ) (at : ℕ) → StandsAt bytes at e → 4 ≤ size e
least_size (Free n) bytes at s = s.least
least_size (Used segment content) bytes at s = omega arith

pub Chain-unique : (xs ys : List Element) (bytes : List ℕ) (at end : ℕ) → Chain xs bytes at end → Chain ys bytes at end
    → xs ≡ ys
Chain-unique [] [] bytes at end c d = refl
Chain-unique [] (f ∷ ys) bytes at end c d = absurd (omega
    (arith, Chain-end ys bytes (at + size f) end d.1, least_size f bytes at d.0))
Chain-unique (e ∷ xs) [] bytes at end c d = absurd (omega
    (arith, Chain-end xs bytes (at + size e) end c.1, least_size e bytes at c.0))
Chain-unique (e ∷ xs) (f ∷ ys) bytes at end c d =
    let same : e ≡ f = StandsAt-unique e f bytes at c.0 d.0 in
    let back : Chain ys bytes (at + size e) end = rw same d.1 in
    let rest : xs ≡ ys = Chain-unique xs ys bytes (at + size e) end c.1 back in
    cc
