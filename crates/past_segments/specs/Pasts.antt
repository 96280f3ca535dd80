-- The segments of each main storage database at every place.
use Rattle.std.specs.Prelude.{◌≡◌, ℕ, List, map}
use Rattle.std.specs.List.{AllZip}
use Rattle.fp_model.specs.CheckpointText.{IsMsdbOf}
use Rattle.fp_model.specs.State.{key_length}
use Rattle.fp_model.specs.declared.database.Msdb.{Msdb}
use Rattle.fp_model.specs.declared.definitions.MsdbDef.{MsdbDef}
use Rattle.past_segments.specs.Times.{Past, database_at}

-- the database is one of its definition at every place
pub record IsPastOf (def : MsdbDef) (past : Past) : Type 0 where
  pub keys : key_length def.fields ≡ past.count
  pub each : (place : ℕ) → IsMsdbOf def (database_at place past)

-- the databases at a place
abbrev pub databases_at : ℕ → List Past → List Msdb
databases_at place pasts = map (database_at place) pasts

abbrev pub ArePastsOf : List MsdbDef → List Past → Type 0
ArePastsOf defs pasts = AllZip IsPastOf defs pasts
