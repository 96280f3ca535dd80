use Rattle.std.proofs.Common.{◌≡◌, true}
use Rattle.std.specs.Prelude.{find}
use Rattle.fp_model.specs.Order.{root_order, sequence}
use Rattle.dli_tree.specs.inside.Aims.{aim_of, looks_for}
use Rattle.dli_tree.specs.InOrder.{are_in_order}
use Rattle.dli_tree.proofs.Rows.{found_from}
use Rattle.dli_tree.proofs.first.in_roots.Given as goal

-- nothing is found in the roots so far
abbrev pub invariant-loop-at : goal.invariant-loop-at
invariant-loop-at l =
    are_in_order l.segments l.roots ≡ true
    → find (looks_for (aim_of l.aim)) (sequence l.segments l.roots) ≡ found_from (looks_for (aim_of l.aim))
    (root_order l.segments) l.at l.roots
