use Rattle.dedb_area.proofs.LeadingLemmas.{led_on}
use Rattle.dedb_area.proofs.leading.an_entry_leads_on.Goals as goal

pub returns : goal.returns
returns g c = λ way bytes states next before staged after e were same keeps is may for_next published small.
    led_on way bytes states next (g.S.Site.disk c.args.old.now) (g.S.Site.disk c.args.new.now) before staged after e
    were same keeps is may for_next published small
