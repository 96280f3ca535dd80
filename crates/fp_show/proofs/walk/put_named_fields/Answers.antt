use Rattle.std.proofs.Common.{◌++◌, ◌∷◌, ◌∙◌, List, ℕ, ap, append_assoc, sym}
use Rattle.std.specs.Prelude.{flat_map}
use Rattle.std.proofs.lemmas.Result.{on_ok_weaker}
use Rattle.fp_model.specs.declared.definitions.FieldDef.{FieldDef}
use Rattle.fp_show.specs.FieldText.{field_text, name_text}
use Rattle.fp_show.proofs.Pieces.{joined_behind}
use Rattle.fp_show.proofs.walk.put_named_fields.Goals as goal

-- the name, and the fields behind blanks
pub returns : goal.returns
returns c =
    let before = c.args.into.now in
    let def = c.args.def.now in
    let text_of = field_text c.args.bytes.now in
    let behind : List FieldDef → List ℕ = λ fields. flat_map (λ field. 32 ∷ text_of field) fields in
    let name = c.in_ok-append.ensures.ok ∙ ap (λ (text : List ℕ). before ++ text) c.without_blanks.ensures in
    let joined = joined_behind text_of 32 (name_text def.name) def.fields in
    on_ok_weaker c.put_fields_behind.result
    (λ is. is
    ∙ ap (λ (fields : List FieldDef). c.append.new.self ++ behind fields) c.as_slice.ensures
    ∙ ap (λ (text : List ℕ). text ++ behind def.fields) name
    ∙ append_assoc before (name_text def.name) (behind def.fields)
    ∙ ap (λ (text : List ℕ). before ++ text) (sym joined))
    c.put_fields_behind.ensures
