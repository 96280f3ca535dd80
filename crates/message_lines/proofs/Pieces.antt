-- Pieces of lists: what stays of a block as lines are given, and parts of lines.
use Rattle.std.proofs.Common.{ℕ, ◌≡◌, ◌+◌, ◌-◌, ◌<◌, ◌≤◌, min, Bool, true, false, List, [], ◌∷◌, ◌++◌, length, take, drop, refl, sym, ◌∙◌, ap, arith, append_assoc, length-append, length-take}
use Rattle.std.proofs.lemmas.List.{append-nil, drop-drop, take-append-drop, take_at, drop-take, length-take-le}
use Rattle.std.proofs.lemmas.List.Elements.{All-append}
use Rattle.std.specs.Prelude.{◌==◌, if◌then◌else◌}
use mir.Val.{bool_byte}
use Rattle.message_lines.specs.inside.Newlines.{HasNoNewline, IsFirstPart, HasLongLine, after_part}

-- a window of a list begins later, where its front is taken
pub window_later : (block : List ℕ) (at end n : ℕ) → at + n ≤ end
    → drop n (take (end - at) (drop at block)) ≡ take (end - (at + n)) (drop (at + n) block)
window_later block at end n le =
    let width : n + (end - (at + n)) ≡ end - at = omega arith in
    let a : drop n (take (n + (end - (at + n))) (drop at block)) ≡ take (end - (at + n)) (drop n (drop at block)) =
    drop-take n (end - (at + n)) (drop at block) in
    let b : drop n (drop at block) ≡ drop (at + n) block = drop-drop n at block in
    cc

-- a window that begins at its end is empty
pub window_empty : (block : List ℕ) (at end : ℕ) → end ≤ at → take (end - at) (drop at block) ≡ []
window_empty block at end le =
    let z : end - at ≡ 0 = omega arith in
    rw z refl

-- no newline in either
pub plain_append : (a b : List ℕ) → HasNoNewline a → HasNoNewline b → HasNoNewline (a ++ b)
plain_append a b p q = All-append (λ x. (x == 10) ≡ false) a b p q

-- how far a first part reaches
part_reaches : (part whole rest : List ℕ) (by_newline : Bool) → IsFirstPart part by_newline whole rest
    → length part + (if by_newline then 1 else 0) ≤ length whole
part_reaches part whole rest true it =
    let e : length whole ≡ length (part ++ 10 ∷ rest) = ap length (it.up_to refl) in
    let l : length (part ++ 10 ∷ rest) ≡ length part + length (10 ∷ rest) = length-append part (10 ∷ rest) in
    omega arith
part_reaches part whole rest false it =
    let e : length whole ≡ length part = ap length (it.all refl) in
    omega arith

-- a part taken from the front of a window: what stays is the window behind it
pub part_taken : (block part : List ℕ) (at end taken : ℕ) (by_newline : Bool) → at ≤ end
    → taken ≡ (if by_newline then 1 else 0)
    → IsFirstPart part by_newline (take (end - at) (drop at block))
    (after_part part by_newline (take (end - at) (drop at block)))
    → IsFirstPart part by_newline (take (end - at) (drop at block))
    (take (end - (at + (length part + taken))) (drop (at + (length part + taken)) block))
part_taken block part at end taken by_newline le e it =
    let reach = part_reaches part (take (end - at) (drop at block)) _ by_newline it in
    let l : length (take (end - at) (drop at block)) ≡ min (end - at) (length (drop at block)) =
    length-take (end - at) (drop at block) in
    let later : drop (length part + (if by_newline then 1 else 0)) (take (end - at) (drop at block))
    ≡ take (end - (at + (length part + (if by_newline then 1 else 0))))
    (drop (at + (length part + (if by_newline then 1 else 0))) block)
    = window_later block at end (length part + (if by_newline then 1 else 0)) (omega arith) in
    rw (e, ← later) it

-- more than 2,100 bytes before a newline, of which some were taken earlier
pub long_joined : (line part whole rest : List ℕ) (by_newline : Bool) → HasNoNewline line
    → IsFirstPart part by_newline whole rest
    → 2100 < length line + length part → HasLongLine (line ++ whole)
long_joined line part whole rest true plain it long = record {
  front = line ++ part;
  rest = 10 ∷ rest;
  splits = rw (it.up_to refl) (sym (append_assoc line part (10 ∷ rest)));
  plain = plain_append line part plain it.plain;
  long = rw length-append long;
}
long_joined line part whole rest false plain it long = record {
  front = line ++ part;
  rest = [];
  splits = rw (it.all refl) (sym (append-nil (line ++ part)));
  plain = plain_append line part plain it.plain;
  long = rw length-append long;
}

-- more bytes behind do not make it shorter
pub long_extended : (bytes more : List ℕ) → HasLongLine bytes → HasLongLine (bytes ++ more)
long_extended bytes more it = record {
  front = it.front;
  rest = it.rest ++ more;
  splits = ap (λ xs. xs ++ more) it.splits ∙ append_assoc it.front it.rest more;
  plain = it.plain;
  long = it.long;
}

-- a truth value as a number
pub as_number : (b : Bool) → bool_byte b ≡ (if b then 1 else 0)
as_number true = refl
as_number false = refl
