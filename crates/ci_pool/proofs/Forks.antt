-- What is known of cells once their tree's node is at hand.
use Rattle.std.proofs.Common.{◌≡◌, ◌+◌, ◌<◌, List, ◌∷◌, length, length-append, Box, Bor, refl, sym, ap, ◌∙◌, subst, arith}
use Rattle.std.specs.Prelude.{Option, Some, None, option_copied}
use Rattle.std.specs.declared.alloc.Global.{Global}
use Rattle.ci_pool.specs.declared.cell.Cell.{Cell}
use Rattle.ci_pool.specs.declared.tree.Fork.{Fork}
use Rattle.ci_pool.specs.Changes.{IsAscending}
use Rattle.ci_pool.specs.Trees.{below, cells_of, marks_of, IsTree}

pub record AtFork (cells : List Cell) (fork : Fork) : Type 0 where
  pub is : cells ≡ below fork
  pub ascending : IsAscending (below fork)
  pub marks : fork.marks ≡ marks_of (below fork)
  pub before_shorter : length fork.before < length cells
  pub behind_shorter : length fork.behind < length cells

pub at_fork : {root : Option (Box Fork Global)} {cells : List Cell} {fork : Box Fork Global} → cells_of root ≡ cells
    → IsTree root → root ≡ Some fork → AtFork cells fork.value
at_fork {root} {cells} {fork} view_is tree is =
    let e = sym view_is ∙ ap cells_of is in
    let here : IsTree (Some fork) = subst IsTree is tree in
    let n : length (below fork.value) ≡ length fork.value.before + length (fork.value.cell ∷ fork.value.behind) =
    length-append fork.value.before (fork.value.cell ∷ fork.value.behind) in
    record {
      is = e;
      ascending = here.0;
      marks = here.1;
      before_shorter = omega (arith, ap length e, n);
      behind_shorter = omega (arith, ap length e, n);
    }

-- a reference that is there shows something
pub none_copied : (o : Option (Bor Cell)) → (o ≡ None → ⊥) → option_copied o ≡ None → ⊥
none_copied None some is = some refl
none_copied (Some c) some is = cc
