use Rattle.std.proofs.Common.{◌≡◌, ◌++◌, ◌∷◌, take}
use Rattle.std.specs.Prelude.{flat_map}
use Rattle.fp_show.specs.FieldText.{field_text}
use Rattle.fp_show.proofs.field.put_fields_behind.Given as goal

-- the fields so far are there
abbrev pub invariant-loop-field : goal.invariant-loop-field
invariant-loop-field l =
    l.into ≡ l.initial.into ++ flat_map (λ field. 32 ∷ field_text l.segment field) (take l.field-index l.fields)
