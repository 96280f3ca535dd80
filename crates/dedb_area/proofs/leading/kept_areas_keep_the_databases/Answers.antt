use Rattle.dedb_area.proofs.LeadingLemmas.{still_for}
use Rattle.dedb_area.proofs.leading.kept_areas_keep_the_databases.Goals as goal

pub returns : goal.returns
returns g c = λ way bytes states before after were keeps.
    still_for way bytes states (g.S.Site.disk c.args.old.now) (g.S.Site.disk c.args.new.now) before after were keeps
