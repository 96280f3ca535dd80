use Rattle.std.proofs.Common.{◌≡◌, ◌^◌, true}
use Rattle.std.specs.Prelude.{find}
use Rattle.fp_model.specs.Order.{sequentials}
use Rattle.fp_model.specs.Shape.{are_newest_first}
use Rattle.dli_tree.specs.inside.Aims.{aim_of, looks_for}
use Rattle.dli_tree.proofs.Roots.{alone}
use Rattle.dli_tree.proofs.Rows.{found_from}
use Rattle.dli_tree.proofs.first.in_sequentials.Given as goal

-- no dependent so far is looked for
abbrev pub invariant-loop-at : goal.invariant-loop-at
invariant-loop-at l =
    are_newest_first 0 (2 ^ 64) l.seqs ≡ true
    → find (looks_for (aim_of l.aim)) (sequentials l.segments l.seqs) ≡ found_from (looks_for (aim_of l.aim))
    (alone l.segment) l.at l.seqs
