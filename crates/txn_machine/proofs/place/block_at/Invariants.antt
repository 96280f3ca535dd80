use Rattle.std.proofs.Common.{◌≡◌, drop}
use Rattle.txn_machine.specs.Places.{block_at}
use Rattle.txn_machine.proofs.place.block_at.Given as goal

abbrev pub invariant-loop-frame : goal.invariant-loop-frame
invariant-loop-frame l = block_at (drop l.frame-index l.frames) l.block ≡ block_at l.frames l.statements
