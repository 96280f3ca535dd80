use Rattle.std.proofs.Common.{◌≡◌, take}
use Rattle.area_states.proofs.roots.copy_children.Given as goal

-- the children copied so far are those before
abbrev pub invariant-loop-child : goal.invariant-loop-child
invariant-loop-child l = l.row ≡ take l.child-index l.child-items

-- and so are the lists of children
abbrev pub invariant-loop-group : goal.invariant-loop-group
invariant-loop-group l = l.children ≡ take l.group-index l.group-items
