use Rattle.std.proofs.Common.{List, ◌∙◌, ap}
use Rattle.dedb_calls.specs.Progress.{DedbProgress}
use Rattle.dedb_calls.specs.declared.anchors.HeldAnchor.{HeldAnchor}
use Rattle.dedb_calls.proofs.AnchorLemmas.{on_err_so}
use Rattle.dedb_calls.proofs.work.DedbWork.hold_anchor.Goals as goal

pub returns-clause-err : goal.returns-clause-err
returns-clause-err c =
    on_err_so c.hold.result _ _ (λ same. ap (λ (held : List HeldAnchor). let now : DedbProgress = record {
      positions = c.self.inside.positions.items;
      anchors = held;
      inserts = c.self.inside.inserts.items;
    } in now) same ∙ c.self.view_is) c.hold.ensures.err
