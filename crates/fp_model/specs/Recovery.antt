-- A log on storage: its open front, and its groups up to a gate that isn't open.
use Rattle.std.specs.Prelude.{ℕ, List}
use Rattle.fp_model.specs.declared.definitions.Defs.{Defs}
use Rattle.fp_model.specs.declared.log.Entry.{Entry}
use Rattle.fp_model.specs.LogText.{Front, StartsWithFront, first_gate}
use Rattle.fp_model.specs.Groups.{Groups, Reads}

-- The log begins with the open front, and holds these groups up to a gate that isn't open.
pub record Holds (front : Front) (bytes : List ℕ) (groups : List (List Entry)) (gate : ℕ) : Type 0 where
  pub begins : StartsWithFront bytes front
  pub reads : Reads bytes (first_gate front) (Groups groups gate)

-- the front of a log of these definitions, in a format, with the text of the scripts
abbrev pub front_of : ℕ → Defs → List ℕ → Front
front_of format defs scripts_text = record { format = format; defs = defs.text; scripts = scripts_text }
