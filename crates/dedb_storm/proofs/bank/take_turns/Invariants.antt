use Rattle.dedb_storm.specs.Bank.{IsGoing, KeepsOthers}
use Rattle.dedb_storm.proofs.bank.take_turns.Given as goal

abbrev pub invariant-loop : goal.invariant-loop
invariant-loop g l = IsGoing l.defs l.region l.work l.locks × KeepsOthers l.region l.initial.locks l.locks
