-- What bodies and proofs need of Numbers, beside what contracts say.
use Rattle.std.specs.Prelude.{List, Option}
use Rattle.std.specs.Option.{option_map_or}
use Rattle.fp_model.specs.declared.name.Name.{Name}
use Rattle.fp_model.specs.Lasts.{Last, with_last}
use Rattle.fp_audit.specs.declared.kept.Kept.{Kept}

-- and back
abbrev pub last_by_name : Name × Kept → Last
last_by_name of = record { lterm = of.0; number = of.1.number; line = of.1.line }

-- the numbers with one more, where an entry uses one
abbrev pub with_used : Option Last → List Last → List Last
with_used used lasts = option_map_or (λ last. with_last last lasts) used lasts
