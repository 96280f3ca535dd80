-- The bytes of a checkpoint that is begun.
use Rattle.std.specs.Prelude.{ℕ, List, Option}
use Rattle.balancing.specs.Numbered.{Numbered}
use Rattle.checkpoint_format.specs.Given.{format_with, terminals_of}
use Rattle.fp_model.specs.CheckpointText.{checkpoint_rest}
use Rattle.fp_model.specs.declared.database.Msdb.{Msdb}
use Rattle.fp_model.specs.declared.definitions.MsdbDef.{MsdbDef}

-- behind the gate: those of a checkpoint with this number, at a place of the log with so many entries before it, of
-- these databases and, in format 2, of these terminals
abbrev pub body_with : List MsdbDef → ℕ → ℕ → ℕ → List Msdb → Option Numbered → List ℕ
body_with defs number at count msdbs lasts = checkpoint_rest (format_with lasts) defs (record {
  number = number;
  at = at;
  count = count;
  msdbs = msdbs;
  lasts = terminals_of lasts;
})
