use Rattle.dedb_storm.specs.Bank.{AreKept}
use Rattle.dedb_storm.proofs.ending.number_all.Given as goal

abbrev pub invariant-loop-insert : goal.invariant-loop-insert
invariant-loop-insert l = AreKept l.defs.dedbs l.standing.anchors.items
