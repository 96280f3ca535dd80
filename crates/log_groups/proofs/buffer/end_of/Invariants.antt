use Rattle.log_groups.proofs.BufferParts.{IsWalked}
use Rattle.log_groups.proofs.buffer.end_of.Given as goal

abbrev pub invariant-loop : goal.invariant-loop
invariant-loop l = IsWalked l.buffer l.start l.count l.end l.counter
