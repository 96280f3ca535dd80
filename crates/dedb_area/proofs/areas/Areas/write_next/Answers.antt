use Rattle.dedb_area.proofs.Everything.{areas_when, sealed_waits}
use Rattle.dedb_area.proofs.areas.Areas.write_next.Goals as goal

pub returns-in_err-write-in-Some-clause-keeps_areas : goal.returns-in_err-write-in-Some-clause-keeps_areas
returns-in_err-write-in-Some-clause-keeps_areas g c told way bytes none =
    areas_when way bytes (g.T.Site.disk c.args.site.now) (g.T.Site.disk c.write.new.site) c.args.self.now c.write.new.self
    c.write.ensures.places
    (λ s. c.write.ensures.keeps_areas told way bytes
    (λ w is. sealed_waits way bytes (g.T.Site.disk c.args.site.now) c.args.self.now c.in-Some.set c.in-Some.ci w none s
    is))

pub returns-in_ok-write-in-Some-clause-keeps_areas : goal.returns-in_ok-write-in-Some-clause-keeps_areas
returns-in_ok-write-in-Some-clause-keeps_areas g c told way bytes none =
    areas_when way bytes (g.T.Site.disk c.args.site.now) (g.T.Site.disk c.write.new.site) c.args.self.now c.write.new.self
    c.write.ensures.places
    (λ s. c.write.ensures.keeps_areas told way bytes
    (λ w is. sealed_waits way bytes (g.T.Site.disk c.args.site.now) c.args.self.now c.in-Some.set c.in-Some.ci w none s
    is))
