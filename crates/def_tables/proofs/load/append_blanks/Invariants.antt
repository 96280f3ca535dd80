use Rattle.std.proofs.Common.{◌≡◌, ◌++◌, replicate}
use Rattle.def_tables.proofs.load.append_blanks.Given as goal

abbrev pub invariant-loop : goal.invariant-loop
invariant-loop l = l.out.items ≡ l.fn.out.items ++ replicate l.counter 32
