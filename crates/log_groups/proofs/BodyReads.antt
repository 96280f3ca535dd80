-- What stands behind an open gate: a length and a body, or damage.
use Rattle.std.proofs.Common.{◌≡◌, inl, inr, ℕ, ◌+◌, ◌<◌, ◌≤◌, ◌^◌, List, [], ◌∷◌, ◌++◌, length, get_or, take, drop, replicate, refl, sym, ◌∙◌, ap, arith, append_assoc}
use Rattle.std.specs.Prelude.{slice_index}
use Rattle.std.proofs.lemmas.Bool.{cases_lt}
use Rattle.std.proofs.lemmas.List.{length-append, length-drop, drop-drop, drop_more, take-append-drop, take-append-le, append-nil, get_or_past, get_or-drop, get_or-take}
use Rattle.fp_model.specs.declared.log.Entry.{Entry}
use Rattle.fp_model.specs.Spellings.{be64}
use Rattle.fp_model.specs.LogText.{body_text}
use Rattle.fp_model.specs.Groups.{IsDamaged}
use Rattle.fp_site.specs.Disk.{read_range}
use Rattle.fp_site.specs.inside.Written.{get_or-append_zeros}
use Rattle.log_format.specs.Faults.{Spells, IsFirstBad}
use Rattle.log_format.proofs.Fields.{length-be64}
use Rattle.log_format.proofs.Bodies.{not_bad}
use Rattle.log_format.proofs.GroupLaws.{no_body, past_end, no_length, no_bytes, one_number}
use Rattle.log_groups.specs.declared.fault.LogFault.TheVariants.{Damaged}
use Rattle.log_groups.specs.Reads.{HasGroup}
use Rattle.log_groups.specs.inside.Reads.{HasLength, HasBody}

-- a byte that is read alone
pub byte_read : (bytes : List ℕ) (at : ℕ) → slice_index (read_range bytes at 1) 0 ≡ slice_index bytes at
byte_read bytes at = get_or-take 1 (drop at bytes ++ replicate 1 0) 0 0 (omega arith) ∙ get_or-append_zeros
    (drop at bytes) 1 0 ∙ get_or-drop at bytes 0 0 ∙ ap (λ n. get_or bytes n 0) (omega arith)

-- bytes that are read within the end
pub read_inside : (bytes : List ℕ) (at count : ℕ) → at + count ≤ length bytes
    → read_range bytes at count ≡ take count (drop at bytes)
read_inside bytes at count le = take-append-le count (drop at bytes) (replicate count 0)
    (omega (arith, length-drop at bytes))

-- an open gate stands within the end
open_inside : (bytes : List ℕ) (at : ℕ) → slice_index bytes at ≡ 1 → at < length bytes
open_inside bytes at one = elim (cases_lt at (length bytes)) [
  | inl lt ↦ lt
  | inr ge ↦ let none : get_or bytes at 0 ≡ 0 = get_or_past bytes at 0 ge in absurd (omega (arith, none, one))
]

-- from an open gate on
from_gate : (bytes : List ℕ) (at : ℕ) → slice_index bytes at ≡ 1 → drop at bytes ≡ 1 ∷ drop (at + 1) bytes
from_gate bytes at one = drop_more bytes at 0 (open_inside bytes at one) ∙ ap (λ b. b ∷ drop (at + 1) bytes) one

-- a length that is cut short is damage
pub cut_short : (bytes : List ℕ) (at : ℕ) → slice_index bytes at ≡ 1 → length bytes < at + 9 → IsDamaged bytes at
cut_short bytes at one short = let lt = open_inside bytes at one in
    no_length bytes at (drop (at + 1) bytes) (from_gate bytes at one) (omega (arith, length-drop (at + 1) bytes))

-- a length that was read
pub length_read : (bytes : List ℕ) (at size : ℕ) → at + 9 ≤ length bytes → be64 size ≡ read_range bytes (at + 1) 8
    → drop (at + 1) bytes ≡ be64 size ++ drop (at + 9) bytes
length_read bytes at size le read =
    sym (take-append-drop 8 (drop (at + 1) bytes)) ∙ ap (λ t. t ++ drop 8 (drop (at + 1) bytes))
    (sym (read ∙ read_inside bytes (at + 1) 8 (omega arith)))
    ∙ ap (λ t. be64 size ++ t) (drop-drop 8 (at + 1) bytes ∙ ap (λ n. drop n bytes) (omega arith))

-- a length of 0 is damage,
pub no_length_is_damage : (bytes : List ℕ) (at size : ℕ) → slice_index bytes at ≡ 1
    → drop (at + 1) bytes ≡ be64 size ++ drop (at + 9) bytes → size ≡ 0 → IsDamaged bytes at
no_length_is_damage bytes at size one text zero =
    no_body bytes at size [] (drop (at + 9) bytes) (from_gate bytes at one ∙ ap (λ t. 1 ∷ t)
    (text ∙ ap (λ t. t ++ drop (at + 9) bytes) (sym (append-nil (be64 size))))) (omega (arith, zero)) (sym zero)
    no_bytes

-- and so is one that passes the end
pub past_end_is_damage : (bytes : List ℕ) (at size : ℕ) → slice_index bytes at ≡ 1
    → drop (at + 1) bytes ≡ be64 size ++ drop (at + 9) bytes → size < 2 ^ 64 → length bytes < at + 9 + size
    → IsDamaged bytes at
past_end_is_damage bytes at size one text small past =
    let lt = open_inside bytes at one in
    let long : length (drop (at + 1) bytes) ≡ 8 + length (drop (at + 9) bytes) =
    ap length text ∙ length-append (be64 size) (drop (at + 9) bytes) ∙ ap (λ n. n + length (drop (at + 9) bytes))
    (length-be64 size) in
    past_end bytes at size (drop (at + 9) bytes) (from_gate bytes at one ∙ ap (λ t. 1 ∷ t) text) small
    (omega (arith, long, length-drop (at + 1) bytes, length-drop (at + 9) bytes))

-- the body behind a length
pub body_read : (bytes : List ℕ) (at size : ℕ) (body : List ℕ) → HasLength bytes at size → length body ≡ size
    → body ≡ take size (drop (at + 9) bytes) → HasBody bytes at body
body_read bytes at size body has long is = record {
  some = omega (arith, has.some);
  small = omega (arith, has.small);
  inside = omega (arith, has.inside);
  text = has.text ∙ ap (λ n. be64 n ++ drop (at + 9) bytes) (sym long) ∙ ap (λ t. be64 (length body) ++ t)
      (sym (take-append-drop size (drop (at + 9) bytes)) ∙ ap (λ t. t ++ drop size (drop (at + 9) bytes)) (sym is) ∙ ap
      (λ t. body ++ t) (drop-drop size (at + 9) bytes ∙ ap (λ n. drop n bytes) (omega (arith, long))));
}

-- a body that is entries is a group,
pub group_read : (bytes : List ℕ) (at : ℕ) (body : List ℕ) (entries : List Entry) (next : ℕ) → slice_index bytes at ≡ 1
    → HasBody bytes at body → Spells body entries → next ≡ at + 9 + length body → HasGroup bytes at entries next
group_read bytes at body [] next one has spells is = let some = has.some in
    absurd (omega (arith, ap length spells.text))
group_read bytes at body (e ∷ entries) next one has spells is =
    let all = e ∷ entries in
    let size : length body ≡ length (body_text all) = ap length spells.text in
    let text : drop at bytes ≡ 1 ∷ (be64 (length (body_text all)) ++ (body_text all ++ drop next bytes)) =
    from_gate bytes at one ∙ ap (λ t. 1 ∷ t) (has.text ∙ ap (λ n. be64 n ++ (body ++ drop (at + 9 + length body) bytes))
    size ∙ ap (λ t. be64 (length (body_text all)) ++ (t ++ drop (at + 9 + length body) bytes)) spells.text ∙ ap
    (λ n. be64 (length (body_text all)) ++ (body_text all ++ drop n bytes)) (sym is)) in
    record {
      group = record { some = omega arith; each = spells.each; fits = omega (arith, size, has.small) };
      text = text ∙ ap (λ t. 1 ∷ t) (sym (append_assoc (be64 (length (body_text all))) (body_text all)
          (drop next bytes)));
      next_is = omega (
        arith,
        is,
        size,
        length-append (be64 (length (body_text all))) (body_text all),
        length-be64 (length (body_text all)),
      );
    }

-- and one that isn't is damage
pub body_is_damage : (bytes : List ℕ) (at : ℕ) (body : List ℕ) (place : ℕ) → slice_index bytes at ≡ 1
    → HasBody bytes at body → IsFirstBad body place → IsDamaged bytes at
body_is_damage bytes at body place one has bad =
    no_body bytes at (length body) body (drop (at + 9 + length body) bytes)
    (from_gate bytes at one ∙ ap (λ t. 1 ∷ t) (has.text ∙ sym
    (append_assoc (be64 (length body)) body (drop (at + 9 + length body) bytes)))) has.small refl
    (λ entries is. not_bad body place entries bad (record { each = is.0.each; text = is.1 }))

-- where a group stands, there is no damage
pub group_is_whole : (bytes : List ℕ) (at : ℕ) (entries : List Entry) (next : ℕ) → HasGroup bytes at entries next
    → IsDamaged bytes at → ⊥
group_is_whole bytes at entries next has damage = damage.no_group entries (drop next bytes) has.group has.text

-- the place in an answer
pub damaged_place : (at place : ℕ) → Damaged at ≡ Damaged place → place ≡ at
damaged_place at place same = cc

-- ---- how far a group goes

-- a group has its gate, its length and a body behind it,
pub group_long : (bytes : List ℕ) (at : ℕ) (entries : List Entry) (next : ℕ) → HasGroup bytes at entries next
    → next ≡ at + 9 + length (body_text entries)
group_long bytes at entries next has =
    let size = length (body_text entries) in
    has.next_is ∙ omega (arith, length-append (be64 size) (body_text entries), length-be64 size)

-- which is as long as the length says that was read
pub group_ends : (bytes : List ℕ) (at size : ℕ) (entries : List Entry) (next : ℕ) → HasLength bytes at size
    → HasGroup bytes at entries next → next ≡ at + 9 + size
group_ends bytes at size entries next has group =
    let body = body_text entries in
    let behind : drop (at + 1) bytes ≡ be64 (length body) ++ (body ++ drop next bytes) =
    ap (λ n. drop n bytes) (omega arith) ∙ sym (drop-drop 1 at bytes) ∙ ap (drop 1) group.text
    ∙ append_assoc (be64 (length body)) body (drop next bytes) in
    let same = one_number size (length body) (drop (at + 9) bytes) (body ++ drop next bytes) has.small group.group.fits
    (sym has.text ∙ behind) in
    group_long bytes at entries next group ∙ ap (λ n. at + 9 + n) (sym same.0)
