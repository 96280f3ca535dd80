use Rattle.std.proofs.Common.{◌≡◌, ◌≢◌, ℕ, ◌+◌, List, [], ◌∷◌, ◌++◌, length, drop, arith, refl, ap, sym, ◌∙◌, append_assoc, length-append}
use Rattle.std.proofs.Math.Seq.{drop-append_seam, get_or-append_seam}
use Rattle.std.specs.Prelude.{slice_index}
use Rattle.std.specs.List.{AllByRecursion}
use Rattle.fp_model.specs.LogText.{front_text, groups_text}
use Rattle.fp_model.specs.Groups.{IsGroup, Reads, Groups}
use Rattle.fp_model.specs.declared.log.Entry.{Entry}
use Rattle.byte_rows.proofs.bytes.a_log_reads_as_its_groups.Goals as goal

-- the bytes from the closed gate on
at_gate : (front groups : List ℕ) → drop (length front + length groups) (front ++ groups ++ 0 ∷ []) ≡ 0 ∷ []
at_gate front groups = ap (λ n. drop n (front ++ groups ++ 0 ∷ [])) (sym (length-append front groups)) ∙
    drop-append_seam (front ++ groups) (0 ∷ [])

-- the bytes from the first gate on
at_first : (front groups : List ℕ) → drop (length front) (front ++ groups ++ 0 ∷ []) ≡ groups ++ 0 ∷ []
at_first front groups = ap (drop (length front)) (append_assoc front groups (0 ∷ [])) ∙ drop-append_seam front
    (groups ++ 0 ∷ [])

-- the closed gate
is_closed : (front groups : List ℕ) → slice_index (front ++ groups ++ 0 ∷ []) (length front + length groups) ≡ 0
is_closed front groups = ap (slice_index (front ++ groups ++ 0 ∷ [])) (sym (length-append front groups)) ∙
    get_or-append_seam (front ++ groups) 0 [] 0

not_one : (n : ℕ) → n ≡ 0 → n ≢ 1
not_one n e = grind arith

-- behind any front
reads : (front : List ℕ) (groups : List (List Entry)) → AllByRecursion IsGroup groups
    → Reads (front ++ groups_text groups ++ 0 ∷ []) (length front)
    (Groups groups (length front + length (groups_text groups)))
reads front groups each =
    let text = groups_text groups in (
      record {
        each = each;
        next = refl;
        text = at_first front text ∙ ap (λ rest. text ++ rest)
            (sym (at_gate front text));
      },
      not_one _ (is_closed front text),
    )

pub returns : goal.returns
returns c = λ front groups each. reads (front_text 1 front) groups each
