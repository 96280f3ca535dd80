-- The exact bytes that gated writes leave of a log.
use Rattle.std.proofs.Common.{◌≡◌, ℕ, ◌+◌, ◌≤◌, max, List, [], ◌∷◌, ◌++◌, length, take, drop, refl, sym, ◌∙◌, ap, arith}
use Rattle.std.proofs.lemmas.List.{length-append, length-drop, length-take, take_at, drop_at, drop-drop, append-nil}
use Rattle.fp_site.specs.Disk.{Disk, IsDurable}
use Rattle.fp_model.specs.LogText.{Front, front_rest, front_text, first_gate, log_text}
use Rattle.gated_write.specs.Gates.{with_body}
use Rattle.log_groups.specs.inside.Images.{IsOpened}

-- after the last sync the gate is open, and the bytes stand behind it
pub opened_from : (old : List ℕ) (gate : ℕ) (ready : List ℕ) → gate ≤ length old → (new : Disk) → IsDurable new 0
    → new.contents 0 ≡ with_body old gate ready → IsOpened old gate ready new
opened_from old gate ready le new durable is =
    let junk = drop (gate + 1 + length ready) old in
    let long : length (take gate old) ≡ gate = omega (arith, le, length-take gate old) in
    record {
      durable = durable;
      front = ap (take gate) is ∙ take_at (take gate old) (1 ∷ (ready ++ junk)) gate long;
      rest = junk;
      stood = refl;
      behind = ap (drop gate) is ∙ drop_at (take gate old) (1 ∷ (ready ++ junk)) gate long;
    }

-- what making a log leaves: the front, its first gate, and behind that what stood there before its gate was closed
pub new_text : (front : Front) (before shut : List ℕ) (new : Disk) → drop 1 shut ≡ drop 1 before
    → IsOpened shut 0 (front_rest front ++ 0 ∷ []) new
    → new.contents 0 ≡ log_text front [] ++ drop (first_gate front + 1) before
new_text front before shut new same opened =
    let rest = front_rest front in
    let ready = rest ++ 0 ∷ [] in
    let places : 0 + 1 + length ready ≡ 1 + first_gate front = omega (arith, length-append rest (0 ∷ [])) in
    let turned : 1 + first_gate front ≡ first_gate front + 1 = omega arith in
    let back : opened.rest ≡ drop (first_gate front + 1) before =
    opened.stood ∙ ap (λ n. drop n shut) places ∙ sym (drop-drop (first_gate front) 1 shut)
    ∙ ap (drop (first_gate front)) same ∙ drop-drop (first_gate front) 1 before ∙ ap (λ n. drop n before) turned in
    let text : log_text front [] ≡ 1 ∷ ready = ap (λ l. l ++ 0 ∷ []) (append-nil (front_text 1 front)) in
    opened.behind ∙ ap (λ l. 1 ∷ (ready ++ l)) back
    ∙ ap (λ l. l ++ drop (first_gate front + 1) before) (sym text)

-- and so how long it is
pub new_length : (front : Front) (before new : List ℕ) → new ≡ log_text front [] ++ drop (first_gate front + 1) before
    → length new ≡ max (first_gate front + 1) (length before)
new_length front before new is =
    let text : log_text front [] ≡ front_text 1 front ++ 0 ∷ [] =
    ap (λ l. l ++ 0 ∷ []) (append-nil (front_text 1 front)) in
    let long = length-append (log_text front []) (drop (first_gate front + 1) before) in
    omega (
      arith,
      ap length is,
      long,
      ap length text,
      length-append (front_text 1 front) (0 ∷ []),
      length-drop (first_gate front + 1) before,
    )
