use Rattle.std.proofs.Common.{subst, sym}
use Rattle.dedb_area.specs.Anchors.{HasAnchorIn}
use Rattle.dedb_area.specs.Standing.{Holding}
use Rattle.dedb_area.proofs.areas.Areas.has_anchor.Goals as goal

pub returns-clause-no : goal.returns-clause-no
returns-clause-no c = λ e set has.
    let here = subst (λ (h : Holding). HasAnchorIn h.places c.args.dedb c.args.anchor set) (sym c.self.view_is) has in
    c.some_area.ensures.no e set
    (subst (λ l. HasAnchorIn l c.args.dedb c.args.anchor set) (sym c.deref.ensures.value) here)
