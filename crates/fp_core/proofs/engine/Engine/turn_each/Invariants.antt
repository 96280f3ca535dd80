use Rattle.std.proofs.Common.{◌≡◌, length}
use Rattle.fp_model.specs.Machine.{Machine}
use Rattle.fp_core.specs.Relation.{StandsFor, rules_in}
use Rattle.fp_core.specs.Rooms.{IsFrugal}
use Rattle.fp_core.specs.inside.Rounding.{TookTurns, turns_of}
use Rattle.fp_core.proofs.engine.Engine.turn_each.Given as goal

-- the regions so far had their turns
abbrev pub invariant-loop-done : goal.invariant-loop-done
invariant-loop-done g l = record {
  rules : rules_in l.self ≡ rules_in l.initial.self;
  defs : l.self.defs ≡ l.initial.self.defs;
  scripts : l.self.scripts ≡ l.initial.self.scripts;
  gate : l.self.log.gate ≡ l.initial.self.log.gate;
  count : length l.self.regions ≡ length l.initial.self.regions;
  frugal : IsFrugal l.initial.self l.self;
  took : (m : Machine) → StandsFor l.initial.self m → TookTurns (turns_of l.done) m l.self;
}
