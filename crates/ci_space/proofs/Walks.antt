-- The walks over elements that are known to be there.
use Rattle.std.proofs.Common.{◌≡◌, ◌≢◌, ℕ, ◌+◌, ◌%◌, ◌<◌, ◌≤◌, List, [], ◌∷◌, ◌++◌, length, slice_index, refl, sym, ap, append_assoc, arith}
use Rattle.std.specs.List.{All}
use Rattle.std.proofs.lemmas.List.Elements.{All-push, All-nil}
use Rattle.ci_space.specs.Element.{Element, Free, Used, size, sizes, StandsAt, Chain, IsMerged, free_size}
use Rattle.ci_space.specs.Walk.{TilesFrom, length_of}
use Rattle.ci_space.specs.inside.Walk.{WalksPast, IsFirstFree, last_free, first_free, WalksTo}
use Rattle.ci_space.proofs.Chains.{Chain-end, Chain-append, least_size, Chain-unique}

-- the element at `at` is whole
pub record IsWhole (bytes : List ℕ) (at end : ℕ) : Type 0 where
  pub room : at + 4 ≤ end
  pub least : 4 ≤ length_of bytes at
  pub fours : length_of bytes at % 4 ≡ 0
  pub within : at + length_of bytes at ≤ end

-- what its first bytes say
pub size-is : (e : Element) (bytes : List ℕ) (at : ℕ) → StandsAt bytes at e → length_of bytes at ≡ size e
size-is (Free n) bytes at s = s.is_length
size-is (Used segment content) bytes at s = s.0.is_length

size_fours : (e : Element) (bytes : List ℕ) (at : ℕ) → StandsAt bytes at e → size e % 4 ≡ 0
size_fours (Free n) bytes at s = s.fours
size_fours (Used segment content) bytes at s = s.0.fours

pub first-whole : (es : List Element) (bytes : List ℕ) (at end : ℕ) → at < end → Chain es bytes at end
    → IsWhole bytes at end
first-whole [] bytes at end l c = absurd (omega arith)
first-whole (e ∷ es) bytes at end l c =
    let n : length_of bytes at ≡ size e = size-is e bytes at c.0 in
    let b : at + size e + sizes es ≡ end = Chain-end es bytes (at + size e) end c.1 in
    let f : 4 ≤ size e = least_size e bytes at c.0 in
    record { room = omega arith; least = omega arith; fours = rw n (size_fours e bytes at c.0); within = omega arith }

-- the walk past free elements that are too small
pub walk-begins : (bytes : List ℕ) (n : ℕ) (f : _) → TilesFrom bytes 32 f → WalksPast bytes n 32
walk-begins bytes n f t = record {
  before = [];
  after = t.elements;
  done = refl;
  left = t.chain;
  is_merged = t.is_merged;
  smaller = All-nil (λ e. free_size e < n);
}

one : (e : Element) (bytes : List ℕ) (at : ℕ) → StandsAt bytes at e → Chain (e ∷ []) bytes at (at + length_of bytes at)
one e bytes at s = (s, ap (λ k. at + k) (sym (size-is e bytes at s)))

small : (e : Element) (bytes : List ℕ) (n at : ℕ) → 0 < n → StandsAt bytes at e
    → (slice_index bytes (at + 2) ≢ 1 → n ≤ length_of bytes at → ⊥) → free_size e < n
small (Free k) bytes n at p s h =
    let t : slice_index bytes (at + 2) ≢ 1 = λ q. omega (arith, s.is_tag, q) in
    let f : n ≤ length_of bytes at → ⊥ = h t in
    omega (arith, s.is_length, f)
small (Used segment content) bytes n at p s h = p

walk_on : (before es : List Element) (bytes : List ℕ) (n at : ℕ) → 0 < n → at < length bytes → Chain before bytes 32 at
    → Chain es bytes at (length bytes)
    → IsMerged (before ++ es) → All (λ e. free_size e < n) before
    → (slice_index bytes (at + 2) ≢ 1 → n ≤ length_of bytes at → ⊥) → WalksPast bytes n (at + length_of bytes at)
walk_on before [] bytes n at p l d c m s h = absurd (omega arith)
walk_on before (e ∷ es) bytes n at p l d c m s h = record {
  before = before ++ e ∷ [];
  after = es;
  done = Chain-append before (e ∷ []) bytes 32 at (at + length_of bytes at) d (one e bytes at c.0);
  left = rw (size-is e bytes at c.0) c.1;
  is_merged = rw (append_assoc before (e ∷ []) es) m;
  smaller = All-push (λ e. free_size e < n) before e s (small e bytes n at p c.0 h);
}

pub walk-on : (bytes : List ℕ) (n at : ℕ) → 0 < n → at < length bytes → WalksPast bytes n at
    → (slice_index bytes (at + 2) ≢ 1 → n ≤ length_of bytes at → ⊥) → WalksPast bytes n (at + length_of bytes at)
walk-on bytes n at p l w h = walk_on w.before w.after bytes n at p l w.done w.left w.is_merged w.smaller h

walk_finds : (before es : List Element) (bytes : List ℕ) (n at : ℕ) → at < length bytes → Chain before bytes 32 at
    → Chain es bytes at (length bytes)
    → IsMerged (before ++ es) → All (λ e. free_size e < n) before → slice_index bytes (at + 2) ≢ 1
    → n ≤ length_of bytes at → IsFirstFree bytes n at
walk_finds before [] bytes n at l d c m s t h = absurd (omega arith)
walk_finds before (Free k ∷ es) bytes n at l d c m s t h = record {
  past = record { before = before; after = Free k ∷ es; done = d; left = c; is_merged = m; smaller = s };
  free = k;
  behind = es;
  is_free = refl;
  holds = omega (arith, c.0.is_length);
}
walk_finds before (Used segment content ∷ es) bytes n at l d c m s t h = absurd (t c.0.0.is_tag)

pub walk-finds : (bytes : List ℕ) (n at : ℕ) → at < length bytes → WalksPast bytes n at → slice_index bytes (at + 2) ≢ 1
    → n ≤ length_of bytes at → IsFirstFree bytes n at
walk-finds bytes n at l w t h = walk_finds w.before w.after bytes n at l w.done w.left w.is_merged w.smaller t h

-- a walk never passes the end
pub walk-within : (bytes : List ℕ) (n at : ℕ) → WalksPast bytes n at → at ≤ length bytes
walk-within bytes n at w = omega (arith, Chain-end w.after bytes at (length bytes) w.left)

-- the walk that keeps where the free bytes before a place begin
last_free-push : (es : List Element) (e : Element) → last_free (es ++ e ∷ []) ≡ free_size e
last_free-push [] e = refl
last_free-push (d ∷ []) e = refl
last_free-push (d ∷ f ∷ es) e = last_free-push (f ∷ es) e

to_used : (before es : List Element) (bytes : List ℕ) (at end : ℕ) → at < end → Chain before bytes 32 at
    → Chain es bytes at end
    → slice_index bytes (at + 2) ≡ 1 → WalksTo bytes (at + length_of bytes at) (at + length_of bytes at) end
to_used before [] bytes at end l d c t = absurd (omega arith)
to_used before (Free k ∷ es) bytes at end l d c t = absurd (omega (arith, c.0.is_tag, t))
to_used before (Used segment content ∷ es) bytes at end l d c t =
    let n : length_of bytes at ≡ 4 + length content = c.0.0.is_length in
    let z : last_free (before ++ Used segment content ∷ []) ≡ 0 = last_free-push before (Used segment content) in
    record {
      before = before ++ Used segment content ∷ [];
      after = es;
      done = Chain-append before (Used segment content ∷ []) bytes 32 at (at + length_of bytes at) d
          (one (Used segment content) bytes at c.0);
      left = rw n c.1;
      begins = omega arith;
    }

pub to-used : (bytes : List ℕ) (at start end : ℕ) → at < end → WalksTo bytes at start end
    → slice_index bytes (at + 2) ≡ 1 → WalksTo bytes (at + length_of bytes at) (at + length_of bytes at) end
to-used bytes at start end l w t = to_used w.before w.after bytes at end l w.done w.left t

to_free : (before es : List Element) (bytes : List ℕ) (at end : ℕ) → at < end → Chain before bytes 32 at
    → Chain es bytes at end
    → slice_index bytes (at + 2) ≢ 1 → WalksTo bytes (at + length_of bytes at) at end
to_free before [] bytes at end l d c t = absurd (omega arith)
to_free before (Free k ∷ es) bytes at end l d c t =
    let n : length_of bytes at ≡ k = c.0.is_length in
    let z : last_free (before ++ Free k ∷ []) ≡ k = last_free-push before (Free k) in
    record {
      before = before ++ Free k ∷ [];
      after = es;
      done = Chain-append before (Free k ∷ []) bytes 32 at (at + length_of bytes at) d (one (Free k) bytes at c.0);
      left = rw n c.1;
      begins = omega arith;
    }
to_free before (Used segment content ∷ es) bytes at end l d c t = absurd (t c.0.0.is_tag)

pub to-free : (bytes : List ℕ) (at start end : ℕ) → at < end → WalksTo bytes at start end
    → slice_index bytes (at + 2) ≢ 1 → WalksTo bytes (at + length_of bytes at) at end
to-free bytes at start end l w t = to_free w.before w.after bytes at end l w.done w.left t

pub to-begins : (bytes : List ℕ) (end : ℕ) (es : List Element) → Chain es bytes 32 end → WalksTo bytes 32 32 end
to-begins bytes end es c = record { before = []; after = es; done = refl; left = c; begins = refl }

pub to-whole : (bytes : List ℕ) (at start end : ℕ) → at < end → WalksTo bytes at start end → IsWhole bytes at end
to-whole bytes at start end l w = first-whole w.after bytes at end l w.left

pub to-within : (bytes : List ℕ) (at start end : ℕ) → WalksTo bytes at start end → at ≤ end
to-within bytes at start end w = omega (arith, Chain-end w.after bytes at end w.left)

pub to-ends : (bytes : List ℕ) (at start : ℕ) (before : List Element) → WalksTo bytes at start at
    → Chain before bytes 32 at → start + last_free before ≡ at
to-ends bytes at start before w c =
    let same : before ≡ w.before = Chain-unique before w.before bytes 32 at c w.done in
    rw same w.begins

-- the free element that stands at a place, if one does
pub first-free : (es : List Element) (bytes : List ℕ) (at end : ℕ) → at < end → Chain es bytes at end
    → slice_index bytes (at + 2) ≢ 1 → first_free es ≡ length_of bytes at
first-free [] bytes at end l c t = absurd (omega arith)
first-free (Free k ∷ es) bytes at end l c t = sym c.0.is_length
first-free (Used segment content ∷ es) bytes at end l c t = absurd (t c.0.0.is_tag)

pub first-used : (es : List Element) (bytes : List ℕ) (at end : ℕ) → Chain es bytes at end
    → slice_index bytes (at + 2) ≡ 1 → first_free es ≡ 0
first-used [] bytes at end c t = refl
first-used (Free k ∷ es) bytes at end c t = absurd (omega (arith, c.0.is_tag, t))
first-used (Used segment content ∷ es) bytes at end c t = refl

pub none-free : (es : List Element) (bytes : List ℕ) (at end : ℕ) → at ≡ end → Chain es bytes at end → first_free es ≡ 0
none-free [] bytes at end l c = refl
none-free (e ∷ es) bytes at end l c = absurd (omega
    (arith, Chain-end es bytes (at + size e) end c.1, least_size e bytes at c.0))

pub walk-low : (bytes : List ℕ) (n at : ℕ) → WalksPast bytes n at → 32 ≤ at
walk-low bytes n at w = omega (arith, Chain-end w.before bytes 32 at w.done)
