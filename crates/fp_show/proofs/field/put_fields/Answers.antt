use Rattle.std.proofs.Common.{◌-◌, ◌++◌, ◌∷◌, ◌∙◌, List, ℕ, length, take, drop, ap}
use Rattle.std.specs.Prelude.{flat_map}
use Rattle.std.proofs.lemmas.Result.{on_ok_weaker}
use Rattle.fp_show.specs.FieldText.{field_text}
use Rattle.fp_show.proofs.Pieces.{joined_all}
use Rattle.fp_show.proofs.field.put_fields.Goals as goal

-- the first field, and the others behind blanks
pub returns-in_ok-put_field-in-len1-up : goal.returns-in_ok-put_field-in-len1-up
returns-in_ok-put_field-in-len1-up c =
    let fields = c.args.fields.now in
    let text_of = field_text c.args.segment.now in
    let others : List ℕ = flat_map (λ field. 32 ∷ text_of field) (take (length fields - 1) (drop 1 fields)) in
    on_ok_weaker c.put_fields_behind.result
    (λ is. is
    ∙ ap (λ (text : List ℕ). text ++ others) c.in_ok-put_field-in-len1-up.ensures
    ∙ joined_all text_of 32 c.args.into.now fields _ c.in-len1-up.len_at_least)
    c.put_fields_behind.ensures
