use Rattle.dedb_area.proofs.Entering.{entered}
use Rattle.dedb_area.proofs.publishing.a_publish_keeps_the_areas.Goals as goal

pub returns : goal.returns
returns g c way bytes before after e stands staged is begins grow small =
    entered way bytes (g.S.Site.disk c.args.site.now) before after e stands staged is begins grow small
