use Rattle.std.proofs.Common.{◌∙◌, is_some}
use Rattle.fp_defs.proofs.ExitLemmas.{found_kind}
use Rattle.fp_defs.proofs.exits.has_router.Goals as goal

pub returns : goal.returns
returns g c = c.is_some.ensures ∙ found_kind (λ one. one.kind) c.args.kind c.args.exits.now.routers.items
    (is_some c.router.result) c.router.ensures.none
