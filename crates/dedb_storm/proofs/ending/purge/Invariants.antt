use Rattle.dedb_storm.specs.Bank.{AreRootsAt}
use Rattle.dedb_storm.proofs.ending.purge.Given as goal

abbrev pub invariant-loop : goal.invariant-loop
invariant-loop l = AreRootsAt l.defs.dedbs l.anchor l.roots

abbrev pub invariant-loop-at : goal.invariant-loop-at
invariant-loop-at l = AreRootsAt l.defs.dedbs l.anchor l.roots
