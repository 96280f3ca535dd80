-- Reading the first of the elements that tile bytes from a place on.
use Rattle.std.proofs.Common.{◌≡◌, ℕ, ◌+◌, ◌-◌, ◌%◌, ◌<◌, ◌≤◌, Bool, true, false, List, [], ◌∷◌, length, get_or, drop, slice_index, slice_range, refl, sym, ap, ◌∙◌, arith}
use Rattle.std.proofs.lemmas.List.{length-take, length-drop, get_or-take, get_or-drop}
use Rattle.std.proofs.lemmas.List.Elements.{All-from_get_or}
use Rattle.std.specs.List.{All}
use Rattle.ci_space.specs.Element.{Element, Free, Used, size, Chain, IsMerged}
use Rattle.ci_space.specs.Interval.{IsZero}
use Rattle.ci_space.specs.Walk.{TilesFrom, length_of}
use Rattle.ci_space.proofs.Chains.{Chain-end, least_size}

-- bytes that are 0, and a range of them
pub zero-range : (bytes : List ℕ) (from to : ℕ) → to ≤ length bytes → All (λ b. b ≡ 0) (slice_range bytes from to)
    → IsZero bytes from to
zero-range bytes from to l h k a b =
    let n : length (slice_range bytes from to) ≡ to - from =
    omega (arith, length-take (to - from) (drop from bytes), length-drop from bytes) in
    let e : from + (k - from) ≡ k = omega arith in
    let g : get_or (slice_range bytes from to) (k - from) 0 ≡ 0 = h (k - from) 0 (omega arith) in
    ap (λ i. get_or bytes i 0) (sym e) ∙ sym (get_or-drop from bytes (k - from) 0)
    ∙ sym (get_or-take (to - from) (drop from bytes) (k - from) 0 (omega arith)) ∙ g

pub range-zero : (bytes : List ℕ) (from to : ℕ) → to ≤ length bytes → IsZero bytes from to
    → All (λ b. b ≡ 0) (slice_range bytes from to)
range-zero bytes from to l h =
    All-from_get_or (λ b. b ≡ 0) (slice_range bytes from to) 0 (λ i a.
    let n : length (slice_range bytes from to) ≡ to - from =
    omega (arith, length-take (to - from) (drop from bytes), length-drop from bytes) in
    let b : i < to - from = omega arith in
    get_or-take (to - from) (drop from bytes) i 0 b ∙ get_or-drop from bytes i 0 ∙ h (from + i) (omega arith)
    (omega arith))

-- an element needs its four bytes
four_bytes : (es : List Element) (bytes : List ℕ) (at : ℕ) → at < length bytes → Chain es bytes at (length bytes)
    → at + 4 ≤ length bytes
four_bytes [] bytes at l c = absurd (omega arith)
four_bytes (e ∷ es) bytes at l c = omega (
  arith,
  Chain-end es bytes (at + size e) (length bytes) c.1,
  least_size e bytes at c.0,
)

pub rest-four : (bytes : List ℕ) (at : ℕ) (f : Bool) → at < length bytes → TilesFrom bytes at f → at + 4 ≤ length bytes
rest-four bytes at f l t = four_bytes t.elements bytes at l t.chain

-- a used element in front
pub used-on : (bytes : List ℕ) (at n : ℕ) (f : Bool) → n ≡ length_of bytes at → slice_index bytes (at + 2) ≡ 1 → 4 ≤ n → n % 4 ≡ 0 → at + n ≤ length bytes →
    TilesFrom bytes (at + n) false → TilesFrom bytes at f
used-on bytes at n f e g least fours l t =
    let content : List ℕ = slice_range bytes (at + 4) (at + n) in
    let k : length content ≡ n - 4 = omega (
      arith,
      length-take (at + n - (at + 4)) (drop (at + 4) bytes),
      length-drop (at + 4) bytes,
    ) in
    let m : 4 + length content ≡ n = omega arith in
    let whole : at + 4 + length content ≡ at + n = omega arith in
    record {
      elements = Used (slice_index bytes (at + 3)) content ∷ t.elements;
      chain = (
        (
          record { is_length = sym e ∙ sym m; is_tag = g; is_segment = refl; least = omega arith; fours = rw m fours },
          ap (λ k. slice_range bytes (at + 4) k) whole,
        ),
        rw m t.chain,
      );
      is_merged = t.is_merged;
      apart = λ _. tt;
    }

-- a free one
pub free-on : (bytes : List ℕ) (at n : ℕ) → n ≡ length_of bytes at → slice_index bytes (at + 2) ≡ 0
    → slice_index bytes (at + 3) ≡ 0 → 4 ≤ n → n % 4 ≡ 0 →
    TilesFrom bytes (at + n) true → TilesFrom bytes at false
free-on bytes at n e g s least fours t = record {
  elements = Free n ∷ t.elements;
  chain = (record { is_length = sym e; is_tag = g; is_segment = s; least = least; fours = fours }, t.chain);
  is_merged = (t.apart refl, t.is_merged);
  apart = λ h. absurd (cc);
}

-- and behind it
free_behind : (es : List Element) (bytes : List ℕ) (at n : ℕ) → at < length bytes → n ≡ length_of bytes at
    → slice_index bytes (at + 2) ≡ 0 →
    Chain es bytes at (length bytes) → IsMerged es → TilesFrom bytes (at + n) true
free_behind [] bytes at n l e g c m = absurd (omega arith)
free_behind (Free k ∷ es) bytes at n l e g c m =
    let same : n ≡ k = e ∙ c.0.is_length in
    record { elements = es; chain = rw same c.1; is_merged = m.1; apart = λ _. m.0 }
free_behind (Used segment content ∷ es) bytes at n l e g c m = absurd (omega (arith, c.0.0.is_tag))

pub free-behind : (bytes : List ℕ) (at n : ℕ) (f : Bool) → at < length bytes → n ≡ length_of bytes at
    → slice_index bytes (at + 2) ≡ 0 →
    TilesFrom bytes at f → TilesFrom bytes (at + n) true
free-behind bytes at n f l e g t = free_behind t.elements bytes at n l e g t.chain t.is_merged
