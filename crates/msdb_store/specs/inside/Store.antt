-- What bodies and proofs need of Store, beside what contracts say.
use Rattle.std.specs.Prelude.{ℕ, List, Bool, find, is_none}
use Rattle.fp_model.specs.State.{key_of}
use Rattle.fp_model.specs.Texts.{same_text}
use Rattle.fp_model.specs.declared.definitions.FieldDef.{FieldDef}

-- whether segments lack the key of one
abbrev pub lacks : List FieldDef → List (List ℕ) → List ℕ → Bool
lacks fields segments segment = is_none (find (λ s. same_text (key_of fields s) (key_of fields segment)) segments)
