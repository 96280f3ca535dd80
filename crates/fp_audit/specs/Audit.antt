-- What contracts see of an auditor.
use Rattle.std.specs.Prelude.{ℕ, List}
use Rattle.fp_model.specs.declared.database.Dedb.{Dedb}
use Rattle.fp_model.specs.declared.definitions.Defs.{Defs}
use Rattle.fp_model.specs.declared.name.Name.{Name}
use Rattle.fp_model.specs.declared.scripts.Script.{Script}
use Rattle.past_segments.specs.Times.{Past}
use Rattle.fp_audit.specs.declared.kept.Kept.{Kept}
use Rattle.fp_audit.specs.declared.verdict.Verdict.{Verdict}

-- Definitions and scripts; the format in which the next line is read, and of each terminal the last number with its
-- reply line; the place of the next entry, the main storage databases at every place up to it, and the data entry
-- databases at that place; and what it has found so far.
pub record Audit : Type 0 where
  pub defs : Defs
  pub scripts : List Script
  pub format : ℕ
  pub lasts : List (Name × Kept)
  pub place : ℕ
  pub pasts : List Past
  pub dedbs : List Dedb
  pub verdict : Verdict
