use Rattle.std.proofs.Common.{◌∙◌, is_some}
use Rattle.fp_defs.proofs.ExitLemmas.{found_kind}
use Rattle.fp_defs.proofs.exits.has_spreader.Goals as goal

pub returns : goal.returns
returns g c = c.is_some.ensures ∙ found_kind (λ one. one.kind) c.args.kind c.args.exits.now.spreaders.items
    (is_some c.spreader.result) c.spreader.ensures.none
