-- What bodies and proofs need of Forms, beside what contracts say.
use Rattle.std.specs.Prelude.{ℕ, List, [], ◌∷◌, length, Bool, true, false}
use Rattle.fp_model.specs.declared.definitions.FieldDef.{FieldDef}
use Rattle.fp_model.specs.declared.definitions.MsdbDef.{MsdbDef}

-- a definition with these fields; what an argument comes to rests on nothing else of one
abbrev pub of_fields : List FieldDef → MsdbDef
of_fields fields = record { name = record { 0 = [] }; dynamic = false; fields = fields; length = 0; load = [] }

-- whether nothing is behind an argument
abbrev pub is_last : List ℕ → Bool
is_last [] = true
is_last (b ∷ bs) = false
