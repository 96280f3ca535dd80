use Rattle.std.proofs.Common.{rules, tests, ◌∙◌}
use Rattle.std.proofs.lemmas.Iterator.{YieldsList-from_slice}
use Rattle.std.proofs.lemmas.Iterator.Search.{any_from_yields_List}
use Rattle.txn_lang.specs.Blocks.{is_loop}
use Rattle.txn_lang.specs.inside.Building.{open_of}
use Rattle.txn_lang.proofs.BlockLemmas.{any_reverse}
use Rattle.txn_lang.proofs.standing.Builder.is_in_loop.Goals as goal

pub returns : goal.returns
returns c =
    let found = any_from_yields_List (λ frame. is_loop (open_of frame)) _ _ c.any.result c.any.ensures.ran
    (YieldsList-from_slice c.args.self.now.frames cc) (λ x b q k. search (rules, tests)) in
    found ∙ any_reverse is_loop c.args.self.now.frames
