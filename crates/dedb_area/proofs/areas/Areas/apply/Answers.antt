use Rattle.std.proofs.Common.{subst, sym}
use Rattle.std.specs.List.{AllByRecursion}
use Rattle.ci_pool.specs.Held.{IsClean}
use Rattle.dedb_area.specs.Applying.{IsFitImage}
use Rattle.dedb_area.specs.Standing.{Holding, IsFitPool}
use Rattle.dedb_area.proofs.areas.Areas.apply.Goals as goal

pub returns-clause-fit : goal.returns-clause-fit
returns-clause-fit c fit =
    let fits = subst (λ (h : Holding). AllByRecursion (IsFitImage h.places) c.args.items.now) (sym c.self.view_is)
    c.requires.fit in
    c.apply_items.ensures.fit c.self.inside.places.items
    (subst (AllByRecursion (IsFitImage c.self.inside.places.items)) (sym c.as_slice.ensures) fits) c.requires.place
    (subst (λ (h : Holding). IsFitPool h.places h.pool) (sym c.self.view_is) fit)

pub returns-clause-clean : goal.returns-clause-clean
returns-clause-clean c contents was =
    c.apply_items.ensures.clean contents (subst (λ (h : Holding). IsClean contents h.pool) (sym c.self.view_is) was)
