use Rattle.std.proofs.Common.{drop, arith}
use Rattle.log_groups.specs.Log.{entries_in}
use Rattle.log_groups.proofs.Sealing.{length-body}
use Rattle.log_groups.proofs.log.Log.count.Goals as goal

-- an entry has bytes, and they end before the last place of a data set
pub overflow_add-result : goal.overflow_add-result
overflow_add-result c = let i = c.self.invariant in
    omega (
      arith,
      i.limit,
      i.fewer,
      i.count,
      length-body
          (entries_in c.self.inside.waiting (drop c.self.inside.start c.self.inside.buffer.items)),
    )
