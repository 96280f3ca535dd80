use Rattle.std.proofs.Common.{◌≡◌, [], length}
use Rattle.fp_site.specs.Site.{ReadsNothing}
use Rattle.fp_lists.specs.Continued.{IsContinued}
use Rattle.area_redo.specs.Redo.{AreaBytes}
use Rattle.area_redo.specs.Standing.{Way}
use Rattle.ci_pool.specs.Cells.{pending_number}
use Rattle.dedb_area.specs.Standing.{IsFitPool}
use Rattle.dedb_area.specs.Keeping.{KeepsAreas, OnlyAreas, StillWaits}
use Rattle.dedb_area.proofs.areas.Areas.write_all.Given as goal

abbrev pub invariant-writes : goal.invariant-writes
invariant-writes g l = record {
  continued : IsContinued g.T.Site.told g.T.Site.faults g.T.Site.holds g.T.Site.keeps l.initial.site l.site;
  faults : g.T.Site.faults l.site ≡ g.T.Site.faults l.initial.site;
  reads : ReadsNothing (g.T.Site.tells_reads l.initial.site) (g.T.Site.tells_reads l.site)
      (g.T.Site.bytes_read l.initial.site) (g.T.Site.bytes_read l.site);
  rest : StillWaits l.initial.self.pool l.self.pool;
  fit : IsFitPool l.initial.self.places l.initial.self.pool → IsFitPool l.self.places l.self.pool;
  places : l.self.places ≡ l.initial.self.places;
  imaged : l.self.imaged ≡ l.initial.self.imaged;
  count : length l.self.unsynced ≡ length l.initial.self.unsynced;
  keeps_areas : g.T.Site.told l.initial.site → (way : Way) (bytes : AreaBytes) → way.unsealed ≡ []
      → KeepsAreas way bytes (g.T.Site.disk l.initial.site) (g.T.Site.disk l.site) l.initial.self l.self;
  only : g.T.Site.told l.initial.site → IsFitPool l.initial.self.places l.initial.self.pool
      → OnlyAreas (g.T.Site.disk l.initial.site) (g.T.Site.disk l.site);
}

abbrev pub decreases-writes : goal.decreases-writes
decreases-writes g l = pending_number l.self.pool.cells
