use Rattle.std.proofs.Common.{◌≡◌, drop}
use Rattle.log_format.proofs.Loop.{with_front}
use Rattle.checkpoint_format.specs.Reading.{msdbs_at}
use Rattle.checkpoint_format.proofs.reading.msdbs_of.Given as goal

-- the databases so far, and those that are still read
abbrev pub invariant-loop-def : goal.invariant-loop-def
invariant-loop-def l = with_front l.msdbs (msdbs_at (drop l.def-index l.defs) l.rest) ≡ msdbs_at l.defs l.bytes
