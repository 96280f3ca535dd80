use Rattle.std.proofs.Common.{◌≡◌, ◌++◌, take, drop}
use Rattle.std.specs.VecDeque.{deque_capacity}
use Rattle.fp_site.specs.Disk.{Elapses, Sends}
use Rattle.fp_site.specs.Site.{ReadsNothing}
use Rattle.fp_core.specs.inside.Sealing.{AreFreed, replies_of, terminals_of}
use Rattle.fp_lists.specs.Continued.{IsContinued}
use Rattle.fp_core.proofs.sealing.tell.Given as goal

-- so many lines are sent, and their terminals are free
abbrev pub invariant-loop : goal.invariant-loop
invariant-loop g l = record {
  sent : g.T.Site.told l.initial.site → (g.T.Site.disk l.site).sent ≡ (g.T.Site.disk l.initial.site).sent ++ replies_of
      (take l.counter l.initial.owed.items);
  freed : AreFreed l.initial.queues.busy l.queues.busy (terminals_of (take l.counter l.initial.owed.items));
  rest : l.owed.items ≡ drop l.counter l.initial.owed.items;
  queues : l.queues.queues ≡ l.initial.queues.queues;
  capacity : deque_capacity l.owed ≡ deque_capacity l.initial.owed;
  same : g.T.Site.told l.initial.site → (g.T.Site.disk l.site).contents ≡ (g.T.Site.disk l.initial.site).contents;
  reads : ReadsNothing (g.T.Site.tells_reads l.initial.site) (g.T.Site.tells_reads l.site)
      (g.T.Site.bytes_read l.initial.site) (g.T.Site.bytes_read l.site);
  calm : g.T.Site.faults l.site ≡ g.T.Site.faults l.initial.site;
  site : IsContinued g.T.Site.told g.T.Site.faults g.T.Site.holds g.T.Site.keeps l.initial.site l.site;
  crash : g.T.Site.told l.initial.site → Elapses (g.T.Site.disk l.initial.site) (g.T.Site.disk l.site)
      (Sends (g.T.Site.disk l.initial.site) (replies_of (take l.counter l.initial.owed.items)));
}
