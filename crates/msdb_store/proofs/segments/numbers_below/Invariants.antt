use Rattle.std.specs.Prelude.{◌≡◌}
use Rattle.fp_model.specs.State.{numbers_up}
use Rattle.msdb_store.proofs.segments.numbers_below.Given as goal

-- the numbers so far
abbrev pub invariant-loop-number : goal.invariant-loop-number
invariant-loop-number l = l.numbers.items ≡ numbers_up l.number 0
