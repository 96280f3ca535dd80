use Rattle.std.proofs.Common.{◌≡◌, ◌≢◌, ℕ, zero, suc, ◌-◌, ◌<◌, ◌≤◌, ◌^◌, List, [], ◌∷◌, ◌++◌, length, drop, replicate, arith, refl, ap, sym, ◌∙◌}
use Rattle.std.proofs.Math.Seq.{drop-append_seam, get_or-append_seam}
use Rattle.std.proofs.lemmas.Nat.{from_be_bytes-to_be_bytes_8}
use Rattle.std.specs.Prelude.{slice_index}
use Rattle.std.specs.Int.{w64, from_be_bytes, sum_through, byte_worth}
use Rattle.fp_model.specs.Spellings.{be64}
use Rattle.fp_model.specs.LogText.{front_text, body_text, group_text}
use Rattle.fp_model.specs.Groups.{IsGroup, Reads, Damage}
use Rattle.fp_model.specs.declared.log.Entry.{Entry}
use Rattle.byte_rows.proofs.bytes.an_open_gate_before_zeros_is_damage.Goals as goal

zero_at : (n i : ℕ) → slice_index (replicate n 0) i ≡ 0
zero_at zero i = refl
zero_at (suc n) zero = refl
zero_at (suc n) (suc i) = zero_at n i

-- eight zeros are the number 0
zeros : (n : ℕ) → from_be_bytes w64 (replicate n 0) ≡ 0
zeros n = λ k. sum_through (λ i. byte_worth (8 - 1 - i) (zero_at n i k)) 7

-- the number in front of a body
in_front : (size : ℕ) (body rest : List ℕ) → size < 2 ^ 64 → from_be_bytes w64 (be64 size ++ body ++ rest) ≡ size
unfolding be64
in_front size body rest fits = from_be_bytes-to_be_bytes_8 size fits

-- one or more entries have bytes
has_bytes : (entries : List Entry) → 1 ≤ length entries → length (body_text entries) ≢ 0
unfolding be64
has_bytes [] some none = omega arith
has_bytes (e ∷ entries) some none = omega arith

-- no group begins with zeros behind its gate
no_group : (n : ℕ) (entries : List Entry) (rest : List ℕ) → IsGroup entries
    → 1 ∷ replicate n 0 ≢ group_text entries ++ rest
no_group n entries rest group same =
    let behind = ap (drop 1) same in
    has_bytes entries group.some (sym (in_front (length (body_text entries)) (body_text entries) rest group.fits) ∙ sym
    (ap (from_be_bytes w64) behind) ∙ zeros n)

-- behind any front
reads : (front : List ℕ) (n : ℕ) → Reads (front ++ 1 ∷ replicate n 0) (length front) (Damage (length front))
reads front n = (
  [],
  record { each = tt; next = omega arith; text = refl },
  record {
    gate = get_or-append_seam front 1 (replicate n 0) 0;
    no_group = λ entries rest group same. no_group n entries rest group
        (sym (drop-append_seam front (1 ∷ replicate n 0)) ∙ same);
  },
)

pub returns : goal.returns
returns c = λ front n. reads (front_text 1 front) n
