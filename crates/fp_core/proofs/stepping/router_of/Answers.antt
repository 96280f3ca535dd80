use Rattle.std.proofs.Common.{refl}
use Rattle.fp_core.proofs.stepping.router_of.Goals as goal
use Rattle.dedb_calls.proofs.RandomizerLemmas.{not_missing}

pub unreachable-requires : goal.unreachable-requires
unreachable-requires g c =
    not_missing (λ one. one.kind) c.args.kind c.args.exits.now.routers.items c.requires (c.in-None.ensures.none.0 refl)
