-- What bodies and proofs need of Numbering, beside what contracts say.
use Rattle.std.specs.Prelude.{List, Option}
use Rattle.std.specs.Option.{option_map_or}
use Rattle.fp_model.specs.Lasts.{Last, with_last}

-- in place of that of its terminal; nothing changes where no number is used up
abbrev pub with_used : Option Last → List Last → List Last
with_used used lasts = option_map_or (λ last. with_last last lasts) used lasts
