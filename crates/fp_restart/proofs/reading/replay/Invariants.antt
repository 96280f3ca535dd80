use Rattle.std.proofs.Common.{◌≡◌, [], ◌+◌, ◌-◌, ◌^◌, ◌≤◌}
use Rattle.log_groups.specs.Reads.{ReadsOnlyLog}
use Rattle.msdb_store.specs.Store.{IsOf}
use Rattle.fp_restart.specs.inside.Replayed.{HasNumbersOfSome, IsFollowed}
use Rattle.fp_restart.proofs.Looking.{Looks}
use Rattle.fp_restart.proofs.Replays.{way_of}
use Rattle.fp_restart.proofs.reading.replay.Given as goal

-- the groups up to this place are put
abbrev pub invariant-loop-numbers : goal.invariant-loop-numbers
invariant-loop-numbers g l = record {
  of : IsOf l.fn.defs.msdbs l.store;
  within : l.at ≤ 2 ^ 62;
  few : l.count ≤ l.at;
  log : l.log ≡ l.initial.log;
  followed : g.T.Site.told l.initial.site → IsFollowed l.fn.defs ((g.T.Site.disk l.initial.site).contents 0)
      (way_of l.initial.log.gate l.initial.log.front_format l.at l.count l.numbers) l.begun l.initial.store.msdbs
      l.store.msdbs;
  first_format : l.initial.numbers.format ≡ l.initial.log.front_format;
  no_number : l.initial.numbers.lasts.terminals ≡ [];
  some : HasNumbersOfSome l.count l.initial.numbers l.numbers;
  counted : g.T.Site.faults l.site ≡ g.T.Site.faults l.initial.site;
  only_log : ReadsOnlyLog (g.T.Site.tells_reads l.initial.site) (g.T.Site.tells_reads l.site)
      (g.T.Site.bytes_read l.initial.site) (g.T.Site.bytes_read l.site);
  read : g.T.Site.tells_reads l.site 0 → g.T.Site.bytes_read l.site 0 + l.initial.log.gate ≡ g.T.Site.bytes_read
      l.initial.site 0 + l.at;
  looks : Looks g.T.Site.told g.T.Site.disk g.T.Site.faults g.T.Site.holds g.T.Site.keeps l.initial.site l.site;
}

abbrev pub decreases-loop-numbers : goal.decreases-loop-numbers
decreases-loop-numbers g l = 2 ^ 62 - l.at
