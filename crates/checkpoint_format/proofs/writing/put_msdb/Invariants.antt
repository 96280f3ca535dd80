use Rattle.std.proofs.Common.{◌≡◌, ◌++◌, drop}
use Rattle.std.specs.List.{flat_map}
use Rattle.std.specs.Prelude.{Some, slice_get}
use Rattle.fp_model.specs.CheckpointText.{msdb_text}
use Rattle.fp_model.specs.declared.database.Msdb.{Msdb}
use Rattle.checkpoint_format.proofs.writing.put_msdb.Given as goal

-- the segments from this one on are to come
abbrev pub invariant-loop-place : goal.invariant-loop-place
invariant-loop-place l = (its : Msdb) → slice_get l.fn.msdbs.msdbs l.fn.number ≡ Some its
    → l.into ++ flat_map (λ segment. segment) (drop l.place its.segments) ≡ l.fn.into ++ msdb_text l.fn.def its
