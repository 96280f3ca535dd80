-- Looks at a database.
use Rattle.fp_model.specs.CheckpointText.{IsMsdbOf}
use Rattle.fp_model.specs.WellFormed.{IsMsdbDef}
use Rattle.fp_model.specs.declared.database.Msdb.{Msdb}
use Rattle.fp_model.specs.declared.definitions.MsdbDef.{MsdbDef}

-- They look at a database of a definition that was read: the segments that stand, and those that a look without a hold
-- is shown, are whole, and their keys ascend.
pub record LookAt (def : MsdbDef) (is_of : Type 0) (stands shows : Msdb) : Type 0 where
  pub good : IsMsdbDef def
  pub finds : is_of
  pub standing : IsMsdbOf def stands
  pub visible : IsMsdbOf def shows
