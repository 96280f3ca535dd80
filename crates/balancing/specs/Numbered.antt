-- Terminals with the last number that each used, and where a name stands among them.
use Rattle.std.specs.Prelude.{Box, map, ℕ, List}
use Rattle.std.specs.declared.alloc.Global.{Global}
use Rattle.fp_model.specs.Lasts.{Last}
use Rattle.balancing.specs.declared.lasts.Kept.{Kept}

-- The terminals, ascending by name, each with its last number and reply line; and how many more of them take no memory.
pub record Numbered : Type 0 where
  pub terminals : List Last
  pub spare : ℕ

-- a terminal as the model has it
abbrev pub as_last : Kept → Last
as_last kept = record { lterm = kept.lterm; number = kept.number; line = kept.line }

-- those of a list of handles
abbrev pub lasts_in : List (Box Kept Global) → List Last
lasts_in handles = map (λ b. as_last b.value) handles
