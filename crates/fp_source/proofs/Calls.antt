-- Runs of calls that read of one part alone.
use Rattle.std.proofs.Common.{ℕ, ◌≡◌, ◌≤◌, ◌<◌, ◌+◌, ◌-◌, min, List, ◌++◌, length, take, refl, sym, ◌∙◌, ap, arith, append_assoc, length-append}
use Rattle.std.proofs.lemmas.List.{length-take, length-take-le, take-take, take-append-le}
use Rattle.fp_lists.specs.Continued.{IsContinued}
use Rattle.fp_lists.proofs.ContinuedLemmas.{continued_both, continued_none}
use Rattle.fp_source.specs.declared.part.Part.{Part}
use Rattle.fp_source.specs.Source.{ReadsOnly}

-- no call at all
pub reads_none : {S : Type 0} (told : S → Type 0) (left : S → Part → List ℕ) (faults holds : S → ℕ)
    (keeps : S → S → Type 0) (part : Part) (a : S)
    → ReadsOnly told left faults holds keeps part a a
reads_none told left faults holds keeps part a =
    record { continued = continued_none told faults holds keeps a; others = λ t p o. refl }

-- one call more
pub reads_on : {S : Type 0} (told : S → Type 0) (left : S → Part → List ℕ) (faults holds : S → ℕ)
    (keeps : S → S → Type 0) (part : Part) (a b c : S)
    → ReadsOnly told left faults holds keeps part a b → IsContinued told faults holds keeps b c
    → (told b → (p : Part) → (p ≡ part → ⊥) → left c p ≡ left b p)
    → ReadsOnly told left faults holds keeps part a c
reads_on told left faults holds keeps part a b c f continued others = record {
  continued = continued_both told faults holds keeps a b c f.continued continued;
  others = λ t p o. others (f.continued.still_told t) p o ∙ f.others t p o;
}

-- one run after another
pub reads_joined : {S : Type 0} (told : S → Type 0) (left : S → Part → List ℕ) (faults holds : S → ℕ)
    (keeps : S → S → Type 0) (part : Part) (a b c : S)
    → ReadsOnly told left faults holds keeps part a b → ReadsOnly told left faults holds keeps part b c
    → ReadsOnly told left faults holds keeps part a c
reads_joined told left faults holds keeps part a b c f s =
    reads_on told left faults holds keeps part a b c f s.continued s.others

-- one piece more of the part
pub piece_more : (first taken piece now next : List ℕ) → first ≡ taken ++ now → now ≡ piece ++ next
    → first ≡ (taken ++ piece) ++ next
piece_more first taken piece now next e f = rw (e, f) (sym (append_assoc taken piece next))

-- the part has more bytes than were taken
pub more_than : (first taken into now next : List ℕ) (n limit : ℕ) → first ≡ taken ++ now → now ≡ take n into ++ next
    → n ≤ length into → length taken ≤ limit → limit - length taken < n
    → limit < length first
more_than first taken into now next n limit e f le few many =
    let a : length first ≡ length taken + length now = ap length e ∙ length-append taken now in
    let b : length now ≡ length (take n into) + length next = ap length f ∙ length-append (take n into) next in
    let d : length (take n into) ≡ n = length-take-le n into le in
    omega arith

-- the front of a block, into which a call wrote
pub front_kept : (into tail : List ℕ) (n room : ℕ) → n ≤ room → n ≤ length into
    → take n (take room (into ++ tail)) ≡ take n into
front_kept into tail n room le few = take-take n room (into ++ tail) le ∙ take-append-le n into tail few

-- the bytes stay within the limit
pub within : (taken block : List ℕ) (n limit : ℕ) → length taken ≤ limit → n ≤ limit - length taken
    → length (taken ++ take n block) ≤ limit
within taken block n limit few le =
    let a = length-append taken (take n block) in
    let b : length (take n block) ≡ min n (length block) = length-take n block in
    omega arith

-- the block stays one
pub some_kept : (into tail : List ℕ) (room : ℕ) → 0 < room → 0 < length into → 0 < length (take room (into ++ tail))
some_kept into tail room some filled =
    let a : length (take room (into ++ tail)) ≡ min room (length (into ++ tail)) = length-take room (into ++ tail) in
    let b = length-append into tail in
    omega arith
