use Rattle.std.proofs.Common.{◌≡◌, drop}
use Rattle.area_reading.proofs.Lengths.{first_length}
use Rattle.area_reading.proofs.types.sequential_length.Given as goal

abbrev pub invariant-loop-def : goal.invariant-loop-def
invariant-loop-def l = first_length (drop l.def-index l.types) ≡ first_length l.types
