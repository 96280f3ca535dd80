use Rattle.std.proofs.Common.{◌≡◌, ◌++◌, drop}
use Rattle.std.specs.List.{flat_map}
use Rattle.std.specs.Prelude.{Some, slice_get}
use Rattle.fp_model.specs.declared.database.Msdb.{Msdb}
use Rattle.fp_show.specs.DbText.{msdb_line, msdb_text}
use Rattle.fp_site.specs.Site.{ReadsNothing}
use Rattle.fp_lists.specs.Continued.{IsContinued}
use Rattle.site_texts.specs.inside.Sent.{IsTold}
use Rattle.site_texts.proofs.databases.tell_database.Given as goal

-- the lines of the segments from this one on are to come
abbrev pub invariant-loop-place : goal.invariant-loop-place
invariant-loop-place g l = record {
  told : (its : Msdb) → slice_get l.fn.store.msdbs l.fn.number ≡ Some its → g.T.Site.told l.fn.site
      → IsTold (g.T.Site.disk l.fn.site) (g.T.Site.disk l.site) (l.fn.held ++ msdb_text l.fn.def its) l.held
      (flat_map (msdb_line l.fn.def) (drop l.place its.segments));
  calm : g.T.Site.faults l.site ≡ g.T.Site.faults l.fn.site;
  reads : ReadsNothing (g.T.Site.tells_reads l.fn.site) (g.T.Site.tells_reads l.site) (g.T.Site.bytes_read l.fn.site)
      (g.T.Site.bytes_read l.site);
  site : IsContinued g.T.Site.told g.T.Site.faults g.T.Site.holds g.T.Site.keeps l.fn.site l.site;
}
