-- The image before a write where one after it is known.
use Rattle.std.proofs.Common.{◌≡◌, inl, inr, ℕ, zero, suc, ◌+◌, ◌<◌, ◌≤◌, max, min, Bool, true, false, ◌||◌, List, [], ◌∷◌, length, get_or, refl, sym, ◌∙◌, ap, arith}
use Rattle.std.specs.Prelude.{if◌then◌else◌, nat_lt}
use Rattle.std.proofs.lemmas.Bool.{cases_lt}
use Rattle.std.proofs.lemmas.Bool.Decides.{nat_tests}
use Rattle.fp_site.specs.Disk.{Torn, covers}

-- the list of the values at the places below n
abbrev pub tabled : ℕ → (ℕ → ℕ) → List ℕ
tabled zero f = []
tabled (suc n) f = f 0 ∷ tabled n (λ i. f (suc i))

-- its length,
pub length-tabled : (n : ℕ) (f : ℕ → ℕ) → length (tabled n f) ≡ n
length-tabled zero f = refl
length-tabled (suc n) f = ap suc (length-tabled n (λ i. f (suc i)))

-- and its values
pub get_or-tabled : (n : ℕ) (f : ℕ → ℕ) (i : ℕ) → i < n → get_or (tabled n f) i 0 ≡ f i
get_or-tabled zero f i lt = absurd (omega arith)
get_or-tabled (suc n) f zero lt = refl
get_or-tabled (suc n) f (suc i) lt = get_or-tabled n (λ j. f (suc j)) i (omega arith)

-- The image before a write, where one after it is known: the later image, with the bytes of the last sync where no
-- earlier write covers them.
module _ (settled : List ℕ) (touched : ℕ → Bool) (longest at count : ℕ) (c : List ℕ)
    (no_shorter : length settled ≤ length c) (no_longer : length c ≤ max (length settled) (max (at + count) longest))
    (kept : (i : ℕ) → i < length settled → (covers at count i || touched i) ≡ false → get_or c i 0 ≡ get_or settled i 0)
  where
    -- its byte at a place, as it is made
    abbrev mixed : ℕ → ℕ
    mixed i = if touched i then get_or c i 0 else if nat_lt i (length settled) then get_or settled i 0 else get_or c i 0

    -- the image before the write
    abbrev pub untorn : List ℕ
    untorn = tabled (min (length c) (max (length settled) longest)) mixed

    -- its length
    len : length untorn ≡ min (length c) (max (length settled) longest)
    len = length-tabled (min (length c) (max (length settled) longest)) mixed

    -- its byte at a place, as it is read
    at_place : (i : ℕ) → i < length untorn → get_or untorn i 0 ≡ mixed i
    at_place i lt = get_or-tabled (min (length c) (max (length settled) longest)) mixed i (omega (arith, lt, len))

    -- outside the range it is the byte of the later image
    mixed_here : (i : ℕ) → covers at count i ≡ false → get_or c i 0 ≡ mixed i
    mixed_here i out = by_case (touched i) refl
      where
        by_place : touched i ≡ false → get_or c i 0 ≡
            (if nat_lt i (length settled) then get_or settled i 0 else get_or c i 0)
        by_place un = elim (cases_lt i (length settled)) [
          | inl lt ↦ let is : nat_lt i (length settled) ≡ true = grind (arith, nat_tests) in
              rw is (kept i lt (rw (out, un) refl))
          | inr ge ↦ let is : nat_lt i (length settled) ≡ false = grind (arith, nat_tests) in rw is refl
        ]

        by_case : (b : Bool) → touched i ≡ b → get_or c i 0 ≡ mixed i
        by_case true un = rw un refl
        by_case false un = rw un (by_place un)

    -- it is an image of that moment: no shorter than at the last sync,
    pub untorn_shorter : length settled ≤ length untorn
    untorn_shorter = omega (arith, len, no_shorter)

    -- no longer than the longest write ends,
    pub untorn_longer : length untorn ≤ max (length settled) longest
    untorn_longer = omega (arith, len)

    -- with the bytes that no write covers
    pub untorn_kept : (i : ℕ) → i < length settled → touched i ≡ false → get_or untorn i 0 ≡ get_or settled i 0
    untorn_kept i lt un =
        let is : nat_lt i (length settled) ≡ true = grind (arith, nat_tests) in
        at_place i (omega (arith, lt, untorn_shorter)) ∙ rw (un, is) refl

    -- and tearing it leads to the later one
    pub is_torn : Torn at count untorn c
    is_torn = record {
      no_shorter = omega (arith, len);
      no_longer = omega (arith, len, no_longer);
      others = λ i lt out. mixed_here i out ∙ sym (at_place i lt);
    }
