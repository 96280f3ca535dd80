use Rattle.std.proofs.Common.{◌≡◌, replicate}
use Rattle.fp_model.specs.Workspace.{no_dedb_position}
use Rattle.dedb_calls.proofs.work.DedbWork.new.Given as goal

abbrev pub invariant-loop : goal.invariant-loop
invariant-loop l = l.positions.items ≡ replicate l.counter no_dedb_position
