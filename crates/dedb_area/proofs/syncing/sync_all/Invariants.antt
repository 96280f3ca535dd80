use Rattle.std.proofs.Common.{◌≡◌, ◌+◌, ◌<◌, ℕ, true}
use Rattle.std.specs.Prelude.{slice_get, Some}
use Rattle.fp_site.specs.Disk.{IsDurable}
use Rattle.fp_site.specs.Site.{ReadsNothing}
use Rattle.fp_lists.specs.Continued.{IsContinued}
use Rattle.fp_model.specs.State.{first_area_set}
use Rattle.dedb_area.specs.inside.Keeping.{SyncsAreas}
use Rattle.dedb_area.proofs.syncing.sync_all.Given as goal

abbrev pub invariant-loop-number : goal.invariant-loop-number
invariant-loop-number g l = record {
  continued : IsContinued g.T.Site.told g.T.Site.faults g.T.Site.holds g.T.Site.keeps l.initial.site l.site;
  count : g.T.Site.faults l.site ≡ g.T.Site.faults l.initial.site;
  reads : ReadsNothing (g.T.Site.tells_reads l.initial.site) (g.T.Site.tells_reads l.site)
      (g.T.Site.bytes_read l.initial.site) (g.T.Site.bytes_read l.site);
  syncs : g.T.Site.told l.initial.site → SyncsAreas (g.T.Site.disk l.initial.site) (g.T.Site.disk l.site);
  synced : g.T.Site.told l.initial.site → (k : ℕ) → k < l.number → slice_get l.unsynced k ≡ Some true
      → IsDurable (g.T.Site.disk l.site) (first_area_set + k);
}
