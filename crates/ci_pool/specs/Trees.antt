-- What a tree of cells is seen as, and what holds of it.
use Rattle.std.specs.Prelude.{◌≡◌, List, [], ◌∷◌, ◌++◌, Option, Some, None}
use Rattle.std.proofs.Common.{Box}
use Rattle.std.specs.declared.alloc.Global.{Global}
use Rattle.ci_pool.specs.declared.cell.Cell.{Cell}
use Rattle.ci_pool.specs.declared.tree.Marks.{Marks}
use Rattle.ci_pool.specs.declared.tree.Fork.{Fork}
use Rattle.ci_pool.specs.Changes.{IsAscending, oldest_of, newest_of, least, any_staged}

-- the cells of a node, in order
abbrev pub below : Fork → List Cell
below fork = fork.before ++ fork.cell ∷ fork.behind

abbrev pub cells_of : Option (Box Fork Global) → List Cell
cells_of None = []
cells_of (Some fork) = below fork.value

abbrev pub marks_of : List Cell → Marks
marks_of cells = record { oldest = least oldest_of cells; newest = least newest_of cells; staged = any_staged cells }

-- the cells ascend, and a node's marks are those of its cells
abbrev pub IsTree : Option (Box Fork Global) → Type 0
IsTree None = Unit {0}
IsTree (Some fork) = IsAscending (below fork.value) × (fork.value.marks ≡ marks_of (below fork.value))
