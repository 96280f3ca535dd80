use Rattle.std.proofs.Common.{refl, rules, codes}
use Rattle.fp_model.specs.Items.{FitsMsdb}
use Rattle.fp_rows.specs.Hex.{hex}
use Rattle.fp_rows.specs.Sample.{accts}
use Rattle.byte_rows.proofs.bytes.which_segments_are_fit.Goals as goal

pub returns-clause-deposit : goal.returns-clause-deposit
returns-clause-deposit c =
    let fits : FitsMsdb accts (codes "A001") (hex (codes "41303031 0000110c")) = search rules in
    ((accts, refl, fits), tt)
