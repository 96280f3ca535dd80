use Rattle.std.proofs.Common.{◌≡◌, ◌+◌, ◌-◌, ◌^◌, ◌≤◌, ℕ}
use Rattle.fp_audit.specs.Standing.{IsAt, rules_in}
use Rattle.fp_model.specs.History.{beginning}
use Rattle.fp_site.specs.Disk.{Stays}
use Rattle.log_groups.specs.Reads.{ReadsOnlyLog}
use Rattle.site_audit.specs.inside.Judged.{AreHeld, AreRead}
use Rattle.fp_lists.specs.Continued.{IsContinued}
use Rattle.site_audit.proofs.auditing.audit_groups.Given as goal

-- all groups up to this place are read and judged
abbrev pub invariant-loop-next : goal.invariant-loop-next
invariant-loop-next g l = record {
  within : l.place.at ≤ 2 ^ 62;
  entries : l.place.entries ≤ l.place.at;
  rules : rules_in l.auditor ≡ rules_in l.initial.auditor;
  defs : l.auditor.defs ≡ l.initial.auditor.defs;
  same : l.log ≡ l.initial.log;
  read_so_far : (format : ℕ) → IsAt l.initial.auditor (beginning format (rules_in l.initial.auditor).start)
      → g.T.Site.told l.initial.site → AreRead (rules_in l.initial.auditor) format (IsAt l.auditor)
      ((g.T.Site.disk l.initial.site).contents 0) l.initial.log.gate l.place;
  held : g.T.Site.told l.initial.site → AreHeld ((g.T.Site.disk l.initial.site).contents 0) l.initial.log.gate
      l.place.at;
  stays : g.T.Site.told l.initial.site → Stays (g.T.Site.disk l.initial.site) (g.T.Site.disk l.site);
  calm : g.T.Site.faults l.site ≡ g.T.Site.faults l.initial.site;
  only_log : ReadsOnlyLog (g.T.Site.tells_reads l.initial.site) (g.T.Site.tells_reads l.site)
      (g.T.Site.bytes_read l.initial.site) (g.T.Site.bytes_read l.site);
  read : g.T.Site.tells_reads l.site 0 → g.T.Site.bytes_read l.site 0 + l.initial.log.gate
      ≡ g.T.Site.bytes_read l.initial.site 0 + l.place.at;
  site : IsContinued g.T.Site.told g.T.Site.faults g.T.Site.holds g.T.Site.keeps l.initial.site l.site;
}

abbrev pub decreases-loop-next : goal.decreases-loop-next
decreases-loop-next g l = 2 ^ 62 - l.place.at
