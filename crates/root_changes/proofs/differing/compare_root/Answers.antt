use Rattle.root_changes.proofs.ComparingLemmas.{own_is, own_below}
use Rattle.root_changes.proofs.differing.compare_root.Goals as goal

pub returns : goal.returns
returns c = own_below _ _ _ _ _ c.as_slice.ensures c.as_slice-2.ensures
    (own_is c.same_own.ensures c.compare_below.ensures)
