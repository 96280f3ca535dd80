use Rattle.std.proofs.Common.{◌≡◌, ◌++◌, drop, take}
use Rattle.fp_model.specs.Order.{child_types}
use Rattle.fp_show.specs.inside.Walk.{kinds_from, row_text, rows_text}
use Rattle.fp_show.proofs.walk.+walk.Given as goal

-- the segments of this row so far are there
abbrev pub invariant-put_rows-loop-node : goal.invariant-put_rows-loop-node
invariant-put_rows-loop-node l =
    l.into ≡ l.initial.into ++ row_text l.types l.child l.below (take l.node-index l.node-items)

-- the rows from this one on are left, and the child types from this one on
abbrev pub invariant-put_rows-loop-row : goal.invariant-put_rows-loop-row
invariant-put_rows-loop-row l =
    l.into ++ rows_text l.types l.number l.level (kinds_from l.types l.number l.from) (drop l.row-index l.rows)
    ≡ l.initial.into ++ rows_text l.types l.number l.level (child_types l.types l.number) l.rows
