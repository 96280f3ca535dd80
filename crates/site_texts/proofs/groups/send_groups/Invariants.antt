use Rattle.std.proofs.Common.{◌≡◌, ◌+◌, ◌-◌, ◌^◌, ◌≤◌}
use Rattle.log_groups.specs.Reads.{ReadsOnlyLog}
use Rattle.site_texts.specs.inside.Groups.{AreSent}
use Rattle.fp_lists.specs.Continued.{IsContinued}
use Rattle.site_texts.proofs.groups.send_groups.Given as goal

-- all groups up to this place are sent
abbrev pub invariant-loop-next : goal.invariant-loop-next
invariant-loop-next g l = record {
  within : l.place.at ≤ 2 ^ 62;
  groups : l.place.groups ≤ l.place.at;
  entries : l.place.entries ≤ l.place.at;
  sent : g.T.Site.told l.initial.site
      → AreSent l.fn.first l.place (g.T.Site.disk l.initial.site) (g.T.Site.disk l.site);
  calm : g.T.Site.faults l.site ≡ g.T.Site.faults l.initial.site;
  only_log : ReadsOnlyLog (g.T.Site.tells_reads l.initial.site) (g.T.Site.tells_reads l.site)
      (g.T.Site.bytes_read l.initial.site) (g.T.Site.bytes_read l.site);
  read : g.T.Site.tells_reads l.site 0 → g.T.Site.bytes_read l.site 0 + l.fn.first
      ≡ g.T.Site.bytes_read l.initial.site 0 + l.place.at;
  site : IsContinued g.T.Site.told g.T.Site.faults g.T.Site.holds g.T.Site.keeps l.initial.site l.site;
}

abbrev pub decreases-loop-next : goal.decreases-loop-next
decreases-loop-next g l = 2 ^ 62 - l.place.at
