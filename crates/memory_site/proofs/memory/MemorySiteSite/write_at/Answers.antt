use Rattle.std.proofs.Common.{length}
use Rattle.memory_site.specs.History.Event.{Wrote}
use Rattle.memory_site.specs.Past.{past_of}
use Rattle.memory_site.proofs.Crashes.{by_history, broke_crash, broke_contents, wrote}
use Rattle.memory_site.proofs.memory.MemorySiteSite.write_at.Goals as goal

-- a call told to fail, that found memory for mixed bytes
pub returns-else-is_err-clause-broke : goal.returns-else-is_err-clause-broke
returns-else-is_err-clause-broke c =
    broke_contents c.break_write.result c.args.set c.args.at (length c.args.from.now) (past_of c.args.self.now.past) _
    c.break_write.ensures.ok c.break_write.ensures.err

pub returns-else-is_err-clause-crash : goal.returns-else-is_err-clause-crash
returns-else-is_err-clause-crash c =
    broke_crash c.break_write.result c.args.set c.args.at (length c.args.from.now) (past_of c.args.self.now.past) _
    c.break_write.ensures.ok c.break_write.ensures.err

pub returns-clause-crash : goal.returns-clause-crash
returns-clause-crash c =
    let h = past_of c.args.self.now.past in
    by_history c.write.result h _ (Wrote c.args.set c.args.at c.args.from.now) _ c.write.ensures.ok c.write.ensures.err
    (wrote h c.args.set c.args.at c.args.from.now)
