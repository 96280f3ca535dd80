use Rattle.std.proofs.Common.{◌∙◌}
use Rattle.dedb_area.proofs.Formatted.{all_formatted}
use Rattle.dedb_area.proofs.areas.Areas.format.Goals as goal

pub returns-clause-formatted : goal.returns-clause-formatted
returns-clause-formatted g c told =
    all_formatted c.format_all.result _ c.deref.result.now (g.T.Site.disk c.format_all.new.site)
    (c.deref.ensures.value ∙ c.in_ok-places.ensures.places) (c.format_all.ensures.formatted told)
