use Rattle.dedb_area.proofs.Staying.{dropped_stand}
use Rattle.dedb_area.proofs.publishing.dropped_areas_stand.Goals as goal

pub returns : goal.returns
returns g c way bytes before after stands is =
    dropped_stand way bytes (g.S.Site.disk c.args.site.now) before after is.pending is.list (is.fit stands.fit) is.places
    is.unsynced is.imaged stands
