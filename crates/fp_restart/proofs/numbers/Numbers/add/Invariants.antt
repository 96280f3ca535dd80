use Rattle.std.specs.Prelude.{take}
use Rattle.fp_restart.specs.inside.Replayed.{HasNumbersOf}
use Rattle.fp_restart.proofs.numbers.Numbers.add.Given as goal

-- the numbers of the entries so far are added
abbrev pub invariant-loop-entry : goal.invariant-loop-entry
invariant-loop-entry l = HasNumbersOf (take l.entry-index l.entries) l.initial.self l.self
