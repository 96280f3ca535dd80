use Rattle.std.proofs.Common.{◌≡◌, ◌++◌, take}
use Rattle.std.specs.Prelude.{flat_map}
use Rattle.fp_show.specs.DbText.{msdb_line}
use Rattle.fp_show.proofs.msdb.put_msdb.Given as goal

-- the segments so far are there
abbrev pub invariant-loop-segment : goal.invariant-loop-segment
invariant-loop-segment l = l.into ≡ l.initial.into ++ flat_map (msdb_line l.def) (take l.segment-index l.segment-items)
