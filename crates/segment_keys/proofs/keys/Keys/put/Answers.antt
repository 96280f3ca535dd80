use Rattle.std.proofs.Common.{◌||◌, map, ap, ◌∙◌}
use Rattle.fp_model.specs.Waiting.{same_resource}
use Rattle.segment_keys.specs.Keys.{resource_of}
use Rattle.segment_keys.specs.Keys.{is_among}
use Rattle.segment_keys.proofs.KeyLemmas.{among-insert}
use Rattle.segment_keys.proofs.keys.Keys.put.Goals as goal

pub returns-clause-ok : goal.returns-clause-ok
returns-clause-ok c =
    λ resource.
    ap (λ keys. is_among (map resource_of keys) resource) c.in_ok-insert.ensures.keys
    ∙ among-insert c.self.inside.keys.keys c.args.key resource
    ∙ ap (λ keys. same_resource (resource_of c.args.key) resource || is_among keys resource) c.self.view_is
