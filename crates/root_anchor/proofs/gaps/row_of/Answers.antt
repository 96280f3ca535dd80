use Rattle.std.proofs.Common.{length, refl}
use Rattle.std.proofs.lemmas.Option.{slice_get_read}
use Rattle.root_anchor.proofs.GapPlaces.{row_at}
use Rattle.root_anchor.proofs.gaps.row_of.Goals as goal

pub returns : goal.returns
returns c = λ types parent places children form gains. row_at types parent c.args.said.now.firsts.items
    c.args.rows.now c.args.others.now c.args.number c.index.result.now c.index-rows-number.result
    c.index-others-number.result places children form gains
    (slice_get_read c.args.said.now.firsts.items (length c.args.said.now.firsts.items) c.args.number c.index.result.now
    refl c.requires.in_firsts c.index.ensures) c.index-rows-number.is c.index-others-number.is
