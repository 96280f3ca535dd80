use Rattle.std.proofs.Common.{◌∙◌}
use Rattle.dli_calls.proofs.StoreLemmas.{found_is, within}
use Rattle.dli_calls.proofs.stored_looks.StoredLooksSegmentLooks.standing.Goals as goal

pub look-requires : goal.look-requires
look-requires c = within c.args.self.now.msdbs.now c.args.self.now.number _ c.requires

pub returns : goal.returns
returns c =
    c.look.ensures c.requires.defs c.requires.of
    ∙ found_is c.args.self.now.msdbs.now c.args.self.now.number _ c.requires c.args.key.now
