use Rattle.std.proofs.Common.{◌++◌, List, sym, subst}
use Rattle.fp_model.specs.declared.calls.AnchorChange.{AnchorChange}
use Rattle.dedb_storm.specs.Bank.{AreKept}
use Rattle.dedb_storm.proofs.Banks.{left_kept}
use Rattle.dedb_storm.proofs.ending.end.Goals as goal

pub settle-requires-clause-left : goal.settle-requires-clause-left
settle-requires-clause-left c =
    subst (λ (changes : List AnchorChange). AreKept c.args.defs.now.dedbs
    (changes ++ c.args.standing.now.anchors.items))
    (sym c.in_ok-parts.ensures.changes)
    (left_kept c.args.defs.now c.args.work c.args.standing.now.anchors.items c.requires.work c.requires.kept)
