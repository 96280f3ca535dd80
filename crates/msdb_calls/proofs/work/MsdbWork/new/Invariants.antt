use Rattle.std.proofs.Common.{◌≡◌, replicate}
use Rattle.fp_model.specs.Workspace.{no_msdb_position}
use Rattle.msdb_calls.proofs.work.MsdbWork.new.Given as goal

abbrev pub invariant-loop : goal.invariant-loop
invariant-loop l = l.positions.items ≡ replicate l.counter no_msdb_position
