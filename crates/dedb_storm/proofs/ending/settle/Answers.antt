use Rattle.std.proofs.Common.{◌∙◌, ◌++◌, List, sym, ap, subst}
use Rattle.fp_model.specs.declared.calls.AnchorChange.{AnchorChange}
use Rattle.dedb_storm.specs.Bank.{AreKept}
use Rattle.dedb_storm.proofs.ending.settle.Goals as goal

pub number_all-requires : goal.number_all-requires
number_all-requires c =
    subst (AreKept c.args.defs.now.dedbs) (sym (c.in_ok-put_all_in_front.ensures
    ∙ ap (λ (changes : List AnchorChange). changes ++ c.args.standing.now.anchors.items)
    c.replace-changes.ensures.value))
    c.requires.left
