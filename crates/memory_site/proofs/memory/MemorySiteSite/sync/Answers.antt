use Rattle.std.proofs.Common.{sym, subst, ◌∙◌}
use Rattle.fp_site.specs.Disk.{IsDurable}
use Rattle.memory_site.specs.History.{disk_of}
use Rattle.memory_site.specs.History.Event.{Synced}
use Rattle.memory_site.specs.Past.{past_of}
use Rattle.memory_site.proofs.Crashes.{by_history, of_ok, synced, synced_durable}
use Rattle.memory_site.proofs.memory.MemorySiteSite.sync.Goals as goal

pub returns-clause-durable : goal.returns-clause-durable
returns-clause-durable c =
    let h = past_of c.args.self.now.past in
    let is = of_ok c.sync.result (sym c.is_err.ensures.value ∙ c.if-is_err.false) c.sync.ensures.ok in
    subst (λ n. IsDurable (disk_of n) c.args.set) (sym is) (synced_durable h c.args.set)

pub returns-clause-crash : goal.returns-clause-crash
returns-clause-crash c =
    let h = past_of c.args.self.now.past in
    by_history c.sync.result h _ (Synced c.args.set) _ c.sync.ensures.ok c.sync.ensures.err (synced h c.args.set)
