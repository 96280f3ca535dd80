use Rattle.std.proofs.Common.{refl, subst, sym}
use Rattle.past_calls.specs.contracts.work.Work.{the_view}
use Rattle.past_calls.specs.Progress.{IsWorkOf}
use Rattle.past_calls.proofs.work.Work.hold_anchor.Goals as goal

pub returns-clause-of : goal.returns-clause-of
returns-clause-of c defs shape is =
    let was : IsWorkOf defs (the_view c.self.inside) = subst (IsWorkOf defs) (sym c.self.view_is) is in
    record {
      positions = was.positions;
      deferred = was.deferred;
      changes = was.changes;
      dedbs = c.hold_anchor.ensures.of defs.dedbs shape was.dedbs;
      edits = refl;
    }
