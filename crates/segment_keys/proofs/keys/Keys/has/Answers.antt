use Rattle.std.proofs.Common.{ap, ◌∙◌}
use Rattle.segment_keys.specs.Keys.{resource_of}
use Rattle.segment_keys.specs.Keys.{is_among}
use Rattle.segment_keys.proofs.KeyLemmas.{among_is_contained}
use Rattle.segment_keys.proofs.keys.Keys.has.Goals as goal

pub returns : goal.returns
returns c =
    c.contains.ensures
    ∙ among_is_contained c.self.inside.keys.keys c.args.key.now
    ∙ ap (λ keys. is_among keys (resource_of c.args.key.now)) c.self.view_is
