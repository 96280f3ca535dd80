use Rattle.std.proofs.Common.{◌≢◌, ℕ}
use Rattle.fp_site.specs.Disk.{IsDurable, Leaves}
use Rattle.fp_site.specs.Site.{ReadsNothing}
use Rattle.fp_lists.specs.Continued.{IsContinued}
use Rattle.dedb_area.specs.Formatting.{IsStarted}
use Rattle.dedb_area.specs.Keeping.{OnlyAreas}
use Rattle.dedb_area.proofs.formatting.format_area.Given as goal

abbrev pub invariant-loop-ci : goal.invariant-loop-ci
invariant-loop-ci g l = record {
  started : g.T.Site.told l.initial.site → IsStarted l.shape l.ci ((g.T.Site.disk l.site).contents l.set);
  leaves : g.T.Site.told l.initial.site → Leaves l.set (g.T.Site.disk l.initial.site) (g.T.Site.disk l.site);
  areas : g.T.Site.told l.initial.site → OnlyAreas (g.T.Site.disk l.initial.site) (g.T.Site.disk l.site);
  aside : g.T.Site.told l.initial.site → (k : ℕ) → k ≢ l.set → IsDurable (g.T.Site.disk l.initial.site) k
      → IsDurable (g.T.Site.disk l.site) k;
  continued : IsContinued g.T.Site.told g.T.Site.faults g.T.Site.holds g.T.Site.keeps l.initial.site l.site;
  reads : ReadsNothing (g.T.Site.tells_reads l.initial.site) (g.T.Site.tells_reads l.site)
      (g.T.Site.bytes_read l.initial.site) (g.T.Site.bytes_read l.site);
}
