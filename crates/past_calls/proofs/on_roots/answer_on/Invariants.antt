use Rattle.std.proofs.Common.{◌≡◌, ◌+◌, ◌≤◌}
use Rattle.dedb_calls.specs.Anchors.{Sees}
use Rattle.fp_model.specs.Calls.{database_of, target_of}
use Rattle.fp_model.specs.declared.database.Db.{Db}
use Rattle.past_calls.specs.inside.Needs.{lacking_on}
use Rattle.past_calls.specs.Progress.{IsWorkOf}
use Rattle.past_calls.specs.Roots.{AreRootsOf}
use Rattle.past_calls.proofs.on_roots.answer_on.Given as goal

-- the anchors that are still lacking are few enough for the turns that are left
abbrev pub invariant-loop : goal.invariant-loop
invariant-loop g l = record {
  of : IsWorkOf l.defs l.work;
  own : l.work.own ≡ l.initial.work.own;
  changed : l.work.changed ≡ l.initial.work.changed;
  sees :
      (now : Db) → AreRootsOf now (g.R.AnchorRoots.roots l.state) → Sees now l.initial.work.anchors
      → Sees now l.work.anchors;
  few : lacking_on (target_of l.defs (database_of l.call)) l.work l.call + l.counter ≤ 65536;
}
