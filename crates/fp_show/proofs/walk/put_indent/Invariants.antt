use Rattle.std.proofs.Common.{◌≡◌, ◌++◌, ◌*◌, replicate}
use Rattle.fp_show.proofs.walk.put_indent.Given as goal

-- the blanks of the levels so far are there
abbrev pub invariant-loop : goal.invariant-loop
invariant-loop l = l.into ≡ l.initial.into ++ replicate (2 * l.counter) 32
