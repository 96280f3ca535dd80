use Rattle.std.proofs.Common.{◌∙◌}
use Rattle.std.specs.Option.{option_copied}
use Rattle.dli_calls.proofs.StoreLemmas.{found_after_is, within}
use Rattle.dli_calls.proofs.stored_looks.StoredLooksSegmentLooks.visible_after.Goals as goal

pub after-requires : goal.after-requires
after-requires c = within c.args.self.now.msdbs.now c.args.self.now.number _ c.requires

pub returns : goal.returns
returns c =
    c.after.ensures c.requires.defs c.requires.of
    ∙ found_after_is c.args.self.now.msdbs.now c.args.self.now.number _ c.requires (option_copied c.args.key)
