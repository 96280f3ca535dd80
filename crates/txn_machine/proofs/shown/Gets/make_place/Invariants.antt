use Rattle.std.proofs.Common.{◌≡◌, ℕ, ◌-◌, ◌+◌, length, Some}
use Rattle.txn_machine.specs.Knowing.{segments_of}
use Rattle.txn_machine.proofs.shown.Gets.make_place.Given as goal

abbrev pub invariant-loop-self : goal.invariant-loop-self
invariant-loop-self l = record {
  same : segments_of (Some l.self) ≡ segments_of (Some l.initial.self);
  db : l.self.db ≡
      l.initial.self.db;
}

abbrev pub decreases-loop-self : goal.decreases-loop-self
decreases-loop-self l = l.initial.self.db + 1 - length l.self.older
