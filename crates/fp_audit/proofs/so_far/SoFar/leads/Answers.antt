use Rattle.std.proofs.Common.{◌+◌}
use Rattle.past_replay.specs.States.{state_at}
use Rattle.fp_audit.specs.inside.Judging.{rules_by}
use Rattle.fp_audit.proofs.Founds.{asks_leads, format_found, is_refused, purge_leads}
use Rattle.fp_audit.proofs.StateLemmas.{keeps_same, next_ready, on_any, stays_now}
use Rattle.fp_audit.proofs.so_far.SoFar.leads.Goals as goal

pub returns-in-Format-clause-keeps : goal.returns-in-Format-clause-keeps
returns-in-Format-clause-keeps g c = keeps_same c.args.self.now

pub returns-in-Unknown-clause-keeps : goal.returns-in-Unknown-clause-keeps
returns-in-Unknown-clause-keeps g c = keeps_same c.args.self.now

pub returns-in-Deadlock-clause-keeps : goal.returns-in-Deadlock-clause-keeps
returns-in-Deadlock-clause-keeps g c = keeps_same c.args.self.now

pub returns-in-Purge-clause-found : goal.returns-in-Purge-clause-found
returns-in-Purge-clause-found g c = λ h stands.
    let it = c.args.self.now in
    let new = c.purges.new.self in
    purge_leads (rules_by it) h c.args.e.now (state_at (it.place + 1) new.pasts.items new.anchors) c.in-Purge.set
    c.in-Purge.n c.purges.result c.in-Purge.is (c.purges.ensures.found h stands)

pub returns-in-Format-clause-found : goal.returns-in-Format-clause-found
returns-in-Format-clause-found g c = λ h stands.
    let it = c.args.self.now in
    format_found (rules_by it) h c.args.e.now (state_at (it.place + 1) it.pasts.items it.anchors) it.requests.format c.in-Format.is
    stands.lines.format_is (stays_now it h c.requires.ready stands)

pub returns-in-Unknown-clause-found : goal.returns-in-Unknown-clause-found
returns-in-Unknown-clause-found g c = λ h stands.
    let it = c.args.self.now in
    asks_leads (rules_by it) h c.args.e.now c.asks_nothing.result (state_at (it.place + 1) it.pasts.items it.anchors)
    (is_refused c.args.e.now.outcome c.in-Unknown.is) (c.asks_nothing.ensures h stands)

pub returns-in-Format-clause-next : goal.returns-in-Format-clause-next
returns-in-Format-clause-next g c = next_ready c.args.self.now c.requires.ready

pub returns-in-Unknown-clause-next : goal.returns-in-Unknown-clause-next
returns-in-Unknown-clause-next g c = on_any c.asks_nothing.result (next_ready c.args.self.now c.requires.ready)

pub returns-in-Deadlock-clause-next : goal.returns-in-Deadlock-clause-next
returns-in-Deadlock-clause-next g c = on_any c.was_refused.result (next_ready c.args.self.now c.requires.ready)
