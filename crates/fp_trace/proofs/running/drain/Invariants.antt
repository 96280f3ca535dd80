use Rattle.std.proofs.Common.{◌≡◌, length}
use Rattle.fp_core.specs.Draining.{IsReachedBy}
use Rattle.fp_model.specs.Machine.{Machine}
use Rattle.fp_trace.proofs.running.drain.Given as goal

abbrev pub invariant-loop : goal.invariant-loop
invariant-loop g l = record {
  reached : (m : Machine) × IsReachedBy l.core.engine m;
  routed : l.core.router.now.kind ≡ l.core.engine.defs.now.router;
  regions : length l.core.engine.defs.now.regions ≡ l.regions;
}
