use Rattle.std.proofs.Common.{◌≡◌, ◌+◌, ◌<◌, ℕ}
use Rattle.std.specs.Prelude.{slice_get, Some}
use Rattle.fp_site.specs.Site.{ReadsNothing}
use Rattle.fp_lists.specs.Continued.{IsContinued}
use Rattle.fp_model.specs.State.{first_area_set}
use Rattle.area_states.specs.declared.place.Place.{Place}
use Rattle.dedb_area.specs.Formatting.{IsFormatted}
use Rattle.dedb_area.specs.Keeping.{OnlyAreas}
use Rattle.dedb_area.proofs.formatting.format_all.Given as goal

abbrev pub invariant-loop-number : goal.invariant-loop-number
invariant-loop-number g l = record {
  formatted : g.T.Site.told l.initial.site → (k : ℕ) (place : Place) → k < l.number
      → slice_get l.places k ≡ Some place → IsFormatted place.shape (first_area_set + k) (g.T.Site.disk l.site);
  only : g.T.Site.told l.initial.site → OnlyAreas (g.T.Site.disk l.initial.site) (g.T.Site.disk l.site);
  continued : IsContinued g.T.Site.told g.T.Site.faults g.T.Site.holds g.T.Site.keeps l.initial.site l.site;
  reads : ReadsNothing (g.T.Site.tells_reads l.initial.site) (g.T.Site.tells_reads l.site)
      (g.T.Site.bytes_read l.initial.site) (g.T.Site.bytes_read l.site);
}
