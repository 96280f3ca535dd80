use Rattle.std.proofs.Common.{refl, arith}
use Rattle.dedb_calls.proofs.RandomizerLemmas.{has_anchors, not_missing}
use Rattle.dedb_calls.proofs.randomizer.anchor_of.Goals as goal

pub place-requires-clause-positive : goal.place-requires-clause-positive
place-requires-clause-positive g c =
    let some = has_anchors c.args.def.now c.requires.def in
    omega (arith, some, c.anchor_count.ensures)

pub returns-in-None : goal.returns-in-None
returns-in-None g c =
    absurd (not_missing (λ one. one.kind) c.args.def.now.randomizer c.args.exits.now.spreaders.items c.requires.exit
    (c.in-None.ensures.none.0 refl))
