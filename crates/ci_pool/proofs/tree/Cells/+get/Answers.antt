use Rattle.ci_pool.proofs.Lists.{found_here, found_behind, found_before, behind_else}
use Rattle.ci_pool.proofs.Forks.{at_fork}
use Rattle.ci_pool.proofs.tree.Cells.+get.Goals as goal

pub returns-then-is_of : goal.returns-then-is_of
returns-then-is_of t c =
    let f = at_fork c.self.view_is c.self.invariant c.in-Some.is in
    cc (f.is, found_here c.args.set c.args.ci _ _ _ f.ascending (cc))

pub returns-then-comes_before : goal.returns-then-comes_before
returns-then-comes_before t c =
    let f = at_fork c.self.view_is c.self.invariant c.in-Some.is in
    cc (f.is, found_behind c.args.set c.args.ci _ _ _ f.ascending (cc))

pub returns-else-comes_before : goal.returns-else-comes_before
returns-else-comes_before t c =
    let f = at_fork c.self.view_is c.self.invariant c.in-Some.is in
    cc (
      f.is,
      found_before c.args.set c.args.ci _ _ _ f.ascending
          (behind_else c.in-Some.fork.value.cell c.args.set c.args.ci (cc) (cc)),
    )
