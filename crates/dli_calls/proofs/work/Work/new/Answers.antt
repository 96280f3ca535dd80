use Rattle.std.proofs.Common.{refl, ap, ◌∙◌}
use Rattle.dedb_calls.specs.Anchors.{changes_in}
use Rattle.dedb_calls.specs.Progress.{DedbProgress}
use Rattle.fp_model.specs.Workspace.{Workspace}
use Rattle.msdb_calls.specs.Progress.{MsdbProgress}
use Rattle.msdb_calls.proofs.BeginLemmas.{begun}
use Rattle.dli_calls.proofs.work.Work.new.Goals as goal

pub returns-clause-of : goal.returns-clause-of
returns-clause-of c = record {
  positions = c.in_ok-msdbs.ensures.of.positions;
  deferred = c.in_ok-msdbs.ensures.of.deferred;
  changes = c.in_ok-msdbs.ensures.of.changes;
  dedbs = c.in_ok-dedbs.ensures.of;
  edits = refl;
}

abbrev own_with : MsdbProgress → DedbProgress → Workspace
own_with msdbs dedbs = record {
  msdbs = msdbs.positions;
  dedbs = dedbs.positions;
  changes = changes_in dedbs.anchors;
  deferred = msdbs.deferred;
  inserts = dedbs.inserts;
}

pub returns-clause-own : goal.returns-clause-own
returns-clause-own c =
    ap (λ (one : MsdbProgress). own_with one c.in_ok-dedbs.dedbs) c.in_ok-msdbs.ensures.begins
    ∙ ap (λ (one : DedbProgress). own_with (begun c.args.defs.now.msdbs) one) c.in_ok-dedbs.ensures.begins

pub returns-clause-anchors : goal.returns-clause-anchors
returns-clause-anchors c = ap (λ (one : DedbProgress). one.anchors) c.in_ok-dedbs.ensures.begins
