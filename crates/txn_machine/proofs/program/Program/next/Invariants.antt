use Rattle.std.proofs.Common.{◌≡◌, None}
use Rattle.txn_machine.specs.Knowing.{segments_of}
use Rattle.txn_machine.specs.inside.Stepping.{ComesAlike}
use Rattle.txn_machine.specs.inside.Work.{work}
use Rattle.txn_machine.proofs.program.Program.next.Given as goal

abbrev pub invariant-loop-next : goal.invariant-loop-next
invariant-loop-next l = record {
  alike : ComesAlike l.defs l.statements l.message l.initial.self l.self;
  number : l.self.number ≡ l.initial.self.number;
  wait : l.self.wait ≡ None;
  shown : segments_of l.self.known.gets ≡ segments_of l.initial.self.known.gets;
}

abbrev pub decreases-loop-next : goal.decreases-loop-next
decreases-loop-next l = work l.statements l.self.place
