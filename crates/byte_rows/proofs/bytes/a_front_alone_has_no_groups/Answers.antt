use Rattle.std.proofs.Common.{◌≡◌, ◌≢◌, ℕ, List, [], length, arith, refl, sym, ◌∙◌}
use Rattle.std.proofs.lemmas.List.{get_or_past}
use Rattle.std.specs.Prelude.{slice_index}
use Rattle.fp_model.specs.LogText.{front_text}
use Rattle.fp_model.specs.Groups.{Reads, Groups}
use Rattle.byte_rows.proofs.bytes.a_front_alone_has_no_groups.Goals as goal

zero_is_not_one : ◌≢◌ {A = ℕ} 0 1
zero_is_not_one e = grind arith

-- no byte stands at the end
past_end : (front : List ℕ) → slice_index front (length front) ≢ 1
past_end front is_open =
    let past : slice_index front (length front) ≡ 0 = get_or_past front (length front) 0 (omega arith) in
    zero_is_not_one (sym past ∙ is_open)

reads : (front : List ℕ) → Reads front (length front) (Groups [] (length front))
reads front = (record { each = tt; next = grind arith; text = refl }, past_end front)

pub returns : goal.returns
returns c = λ front. reads (front_text 1 front)
