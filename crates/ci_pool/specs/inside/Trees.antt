-- What bodies and proofs need of Trees, beside what contracts say.
use Rattle.std.proofs.Common.{Box}
use Rattle.std.specs.declared.alloc.Global.{Global}
use Rattle.ci_pool.specs.declared.cell.Cell.{Cell}
use Rattle.ci_pool.specs.declared.tree.Fork.{Fork}

-- the cell of a node
abbrev pub cell_of : Box Fork Global → Cell
cell_of fork = fork.value.cell
