-- A write in place: zeros behind the bytes up to its end, and then the range.
use Rattle.std.proofs.Common.{◌≡◌, ◌<◌, ℕ, ◌+◌, ◌-◌, ◌≤◌, List, ◌++◌, length, get_or, take, drop, sym, ◌∙◌, ap, arith, append_assoc}
use Rattle.std.proofs.lemmas.List.{ext_get_or, length-take, length-drop, length-append, length-replicate, get_or-take, get_or-drop}
use Rattle.fp_site.specs.Disk.{written}
use Rattle.fp_site.specs.Written.{zeros}
use Rattle.fp_site.specs.inside.Written.{get_or-append_zeros, written_some}

module _ (old padded : List ℕ) (at : ℕ) (bytes : List ℕ) (some : 1 ≤ length bytes)
    (is : padded ≡ old ++ zeros (at + length bytes - length old)) where
  -- how many zeros
  abbrev more : ℕ
  more = at + length bytes - length old

  -- their length,
  padded_length : length padded ≡ length old + more
  padded_length = ap length is ∙ length-append old (zeros more) ∙ ap (λ v. length old + v) (length-replicate more 0)

  -- their bytes,
  padded_byte : (i : ℕ) → get_or padded i 0 ≡ get_or old i 0
  padded_byte i = ap (λ l. get_or l i 0) is ∙ get_or-append_zeros old more i

  -- those before the range,
  padded_front : take at padded ≡ take at old ++ zeros (at - length old)
  padded_front =
      ext_get_or 0 (take at padded) (take at old ++ zeros (at - length old))
      (omega (
        arith,
        length-take at padded,
        length-append (take at old) (zeros (at - length old)),
        length-take at old,
        length-replicate {A = ℕ} (at - length old) 0,
        padded_length,
      ))
      (λ i lt.
      let below : i < at = omega (arith, lt, length-take at padded) in
      get_or-take at padded i 0 below ∙ padded_byte i ∙ sym (get_or-take at old i 0 below) ∙ sym
      (get_or-append_zeros (take at old) (at - length old) i))

  -- and those behind it
  padded_back : drop (at + length bytes) padded ≡ drop (at + length bytes) old
  padded_back =
      ext_get_or 0 (drop (at + length bytes) padded) (drop (at + length bytes) old)
      (omega (arith, length-drop (at + length bytes) padded, length-drop (at + length bytes) old, padded_length))
      (λ i lt. get_or-drop (at + length bytes) padded i 0 ∙ padded_byte (at + length bytes + i) ∙ sym
      (get_or-drop (at + length bytes) old i 0))

  -- the range in the padded bytes is a write
  pub written_padded : take at padded ++ (bytes ++ drop (at + length bytes) padded) ≡ written old at bytes
  written_padded =
      ap (λ l. l ++ (bytes ++ drop (at + length bytes) padded)) padded_front
      ∙ append_assoc (take at old) (zeros (at - length old)) (bytes ++ drop (at + length bytes) padded)
      ∙ ap (λ l. take at old ++ (zeros (at - length old) ++ (bytes ++ l))) padded_back
      ∙ sym (written_some old at bytes some)

  -- and as long as they
  pub pasted_length : (new : List ℕ) → new ≡ take at padded ++ (bytes ++ drop (at + length bytes) padded)
      → length new ≡ length padded
  pasted_length new is2 = ap length is2 ∙ length-append (take at padded) (bytes ++ drop (at + length bytes) padded) ∙
      omega (
        arith,
        length-append bytes (drop (at + length bytes) padded),
        length-take at padded,
        length-drop (at + length bytes) padded,
        padded_length,
      )
