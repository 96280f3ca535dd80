use Rattle.std.proofs.Common.{subst}
use Rattle.ci_pool.specs.Held.{IsOldestSealed}
use Rattle.dedb_area.specs.Standing.{Holding}
use Rattle.dedb_area.proofs.Writes.{areas_none, oldest_sealed_below}
use Rattle.dedb_area.proofs.areas.Areas.write_oldest.Goals as goal

pub returns-in-None-clause-keeps_areas : goal.returns-in-None-clause-keeps_areas
returns-in-None-clause-keeps_areas g c told way bytes le =
    areas_none way bytes (g.T.Site.disk c.args.site.now) c.args.self.now (g.met.T.Site.lawful c.args.site.now told)

pub returns-in_err-write-in-Some-clause-keeps_areas : goal.returns-in_err-write-in-Some-clause-keeps_areas
returns-in_err-write-in-Some-clause-keeps_areas g c told way bytes le =
    let oldest = subst (λ (h : Holding). IsOldestSealed h.pool c.args.sealed c.in-Some.set c.in-Some.ci) c.self.view_is
    c.in-Some.ensures.some in
    c.write.ensures.keeps_areas told way bytes (λ w is. oldest_sealed_below _ _ _ _ _ w oldest le is)

pub returns-in_ok-write-in-Some-clause-keeps_areas : goal.returns-in_ok-write-in-Some-clause-keeps_areas
returns-in_ok-write-in-Some-clause-keeps_areas g c told way bytes le =
    let oldest = subst (λ (h : Holding). IsOldestSealed h.pool c.args.sealed c.in-Some.set c.in-Some.ci) c.self.view_is
    c.in-Some.ensures.some in
    c.write.ensures.keeps_areas told way bytes (λ w is. oldest_sealed_below _ _ _ _ _ w oldest le is)
