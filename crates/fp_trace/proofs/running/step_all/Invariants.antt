use Rattle.std.proofs.Common.{◌≡◌, length}
use Rattle.fp_core.specs.Draining.{IsReachedBy}
use Rattle.fp_model.specs.Machine.{Machine}
use Rattle.fp_trace.proofs.running.step_all.Given as goal

abbrev pub invariant-loop-event : goal.invariant-loop-event
invariant-loop-event g l = record {
  reached : (m : Machine) × IsReachedBy l.core.engine m;
  routed : l.core.router.now.kind ≡ l.core.engine.defs.now.router;
  regions : length l.core.engine.defs.now.regions ≡ l.regions;
}
