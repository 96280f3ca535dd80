use Rattle.dedb_storm.specs.Bank.{AreBothGoing, AreKept}
use Rattle.dedb_storm.proofs.judging.turns_lines.Given as goal

abbrev pub invariant-loop-text : goal.invariant-loop-text
invariant-loop-text g l =
    AreBothGoing l.defs l.first l.second l.locks × AreKept l.defs.dedbs l.standing.anchors.items
