-- Fronts of the two formats for the same definitions and scripts.
use Rattle.std.proofs.Common.{◌≡◌, ◌⊎◌, inl, inr, ℕ, List, ◌++◌, take, drop, get_or, sym, ◌∙◌, ap, subst, arith}
use Rattle.std.specs.Prelude.{Option, Some, None, IfSome}
use Rattle.std.proofs.lemmas.List.{take-append-drop}
use Rattle.std.proofs.Math.Seq.{take-append_seam}
use Rattle.fp_model.specs.LogText.{Front, IsFormat, StartsWithFront, front_text, first_gate}
use Rattle.log_groups.specs.Images.{in_format}
use Rattle.log_groups.proofs.Shutting.{length-front}

-- their fronts are equally long
pub same_gate : (format : ℕ) (front : Front) → first_gate (in_format format front) ≡ first_gate front
same_gate format front = omega (arith, length-front (in_format format front), length-front front)

-- a log begins with a front of a format where its first bytes are that
pub begins_so : (format : ℕ) (front : Front) (bytes : List ℕ)
    → take (first_gate front) bytes ≡ front_text 1 (in_format format front)
    → StartsWithFront bytes (in_format format front)
begins_so format front bytes is = (
  drop (first_gate front) bytes,
  sym (take-append-drop (first_gate front) bytes) ∙ ap (λ l. l ++ drop (first_gate front) bytes) is,
)

-- and nowhere else
pub first_of : (format : ℕ) (front : Front) (bytes : List ℕ) → StartsWithFront bytes (in_format format front)
    → take (first_gate front) bytes ≡ front_text 1 (in_format format front)
first_of format front bytes begins =
    ap (take (first_gate front)) begins.1
    ∙ subst (λ n. take n (front_text 1 (in_format format front) ++ begins.0) ≡ front_text 1 (in_format format front))
    (same_gate format front) (take-append_seam (front_text 1 (in_format format front)) begins.0)

-- a log begins with the front of one format at most
pub one_format : (first second : ℕ) (front : Front) (bytes : List ℕ) → StartsWithFront bytes (in_format first front)
    → StartsWithFront bytes (in_format second front) → first ≡ second
one_format first second front bytes a b = omega (arith, ap (λ l. get_or l 8 0) a.1, ap (λ l. get_or l 8 0) b.1)

-- ---- the choice between the two texts

-- bytes that are one of two texts, counted from 1
abbrev pub IsOneOf : List ℕ → List ℕ → List ℕ → ℕ → Type 0
IsOneOf bytes first second place = ((place ≡ 1) × (bytes ≡ first)) ⊎ ((place ≡ 2) × (bytes ≡ second))

one_is_format : (bytes first second : List ℕ) (place : ℕ) → IsOneOf bytes first second place → IsFormat place
one_is_format bytes first second place (inl (one, is)) = (0, omega arith, sym one)
one_is_format bytes first second place (inr (two, is)) = (1, omega arith, sym two)

pub choice_is_format : (bytes first second : List ℕ) (found : Option ℕ) → IfSome found (IsOneOf bytes first second)
    → IfSome found IsFormat
choice_is_format bytes first second None is = tt
choice_is_format bytes first second (Some place) is = one_is_format bytes first second place is

module _ (front : Front) (log bytes first second : List ℕ) (taken : bytes ≡ take (first_gate front) log)
    (first_is : first ≡ front_text 1 (in_format 1 front)) (second_is : second ≡ front_text 1 (in_format 2 front)) where
  one_begins : (place : ℕ) → IsOneOf bytes first second place → StartsWithFront log (in_format place front)
  one_begins place (inl (one, is)) = subst (λ n. StartsWithFront log (in_format n front)) (sym one)
      (begins_so 1 front log (sym taken ∙ is ∙ first_is))
  one_begins place (inr (two, is)) = subst (λ n. StartsWithFront log (in_format n front)) (sym two)
      (begins_so 2 front log (sym taken ∙ is ∙ second_is))

  pub choice_begins : (found : Option ℕ) → IfSome found (IsOneOf bytes first second)
      → IfSome found (λ format. StartsWithFront log (in_format format front))
  choice_begins None is = tt
  choice_begins (Some place) is = one_begins place is
