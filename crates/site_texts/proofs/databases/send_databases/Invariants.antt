use Rattle.std.proofs.Common.{◌≡◌, drop}
use Rattle.fp_show.specs.DbText.{each_text, msdb_text}
use Rattle.fp_site.specs.Site.{ReadsNothing}
use Rattle.fp_lists.specs.Continued.{IsContinued}
use Rattle.site_texts.specs.inside.Sent.{IsTold}
use Rattle.site_texts.specs.Texts.{msdbs_text}
use Rattle.site_texts.proofs.databases.send_databases.Given as goal

-- the databases from this one on are to come
abbrev pub invariant-loop-number : goal.invariant-loop-number
invariant-loop-number g l = record {
  told : g.T.Site.told l.fn.site → IsTold (g.T.Site.disk l.fn.site) (g.T.Site.disk l.site)
      (msdbs_text l.fn.defs l.fn.store.msdbs) l.held
      (each_text msdb_text (drop l.number l.fn.defs.msdbs) (drop l.number l.fn.store.msdbs));
  calm : g.T.Site.faults l.site ≡ g.T.Site.faults l.fn.site;
  reads : ReadsNothing (g.T.Site.tells_reads l.fn.site) (g.T.Site.tells_reads l.site) (g.T.Site.bytes_read l.fn.site)
      (g.T.Site.bytes_read l.site);
  site : IsContinued g.T.Site.told g.T.Site.faults g.T.Site.holds g.T.Site.keeps l.fn.site l.site;
}
