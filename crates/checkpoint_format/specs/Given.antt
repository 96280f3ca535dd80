-- A checkpoint as a program's values have it.
use Rattle.std.specs.Prelude.{ℕ, List, [], Option, Some, None}
use Rattle.balancing.specs.Numbered.{Numbered}
use Rattle.checkpoint_format.specs.declared.checkpoint.Loaded.{Loaded}
use Rattle.checkpoint_format.specs.declared.checkpoint.Place.{Place}
use Rattle.fp_model.specs.CheckpointText.{Checkpoint}
use Rattle.fp_model.specs.Lasts.{Last}
use Rattle.fp_model.specs.declared.database.Msdb.{Msdb}

-- the terminals that are given, none in format 1
abbrev pub terminals_of : Option Numbered → List Last
terminals_of None = []
terminals_of (Some lasts) = lasts.terminals

-- the format in which they are written
abbrev pub format_with : Option Numbered → ℕ
format_with None = 1
format_with (Some lasts) = 2

-- a checkpoint of these databases and terminals
abbrev pub checkpoint_of : Place → List Msdb → Option Numbered → Checkpoint
checkpoint_of place msdbs lasts = record {
  number = place.number;
  at = place.at;
  count = place.count;
  msdbs = msdbs;
  lasts = terminals_of lasts;
}

-- one that was read
abbrev pub loaded_as : Loaded → Checkpoint
loaded_as loaded = record {
  number = loaded.number;
  at = loaded.at;
  count = loaded.count;
  msdbs = loaded.msdbs;
  lasts = loaded.lasts.terminals;
}
