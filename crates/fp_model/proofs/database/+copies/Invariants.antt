use Rattle.std.proofs.Common.{◌≡◌, take}
use Rattle.fp_model.proofs.database.+copies.Given as goal

-- the children copied so far are those before
abbrev pub invariant-copy_children-loop-child : goal.invariant-copy_children-loop-child
invariant-copy_children-loop-child l = l.row ≡ take l.child-index l.child-items

-- and so are the lists of children
abbrev pub invariant-copy_children-loop-group : goal.invariant-copy_children-loop-group
invariant-copy_children-loop-group l = l.children ≡ take l.group-index l.group-items
