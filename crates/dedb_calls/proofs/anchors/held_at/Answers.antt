use Rattle.std.proofs.Common.{◌∙◌, sym}
use Rattle.dedb_calls.proofs.AnchorLemmas.{lacks, stands, there_at}
use Rattle.dedb_calls.proofs.anchors.held_at.Goals as goal

pub returns-then-is_there : goal.returns-then-is_there
returns-then-is_there c up =
    let at = there_at c.args.held.now c.place_of-at.result c.index-held-at.result
    (c.is_there.ensures.within c.if-is_there.true) c.index-held-at.is in
    sym (stands c.args.dedb c.args.anchor c.args.held.now c.place_of-at.result c.index-held-at.result
    up (c.place_of-at.ensures.place up) at (sym (c.is_there.ensures.there _ at) ∙ c.if-is_there.true))

pub returns-else-is_there : goal.returns-else-is_there
returns-else-is_there c up =
    sym (lacks c.args.dedb c.args.anchor c.args.held.now c.place_of-at.result up (c.place_of-at.ensures.place up)
    (λ a at. sym (c.is_there.ensures.there a at) ∙ c.if-is_there.false))
