use Rattle.std.proofs.Common.{rules, ◌≡◌, ◌∙◌}
use Rattle.std.specs.Int.{w128}
use Rattle.std.specs.Prelude.{FitsSigned as SFits}
use Rattle.std.proofs.lemmas.Int.{to_z-of_z}
use Rattle.packed_dec.proofs.Digits.{signed_at}
use Rattle.packed_dec.proofs.reading.packed_number.Goals as goal

pub returns-in-Some : goal.returns-in-Some
returns-in-Some c =
    let fits : SFits w128 c.long_signed.result = search rules in
    rw (to_z-of_z w128 c.long_signed.result fits) (signed_at c.args.bytes.now _ _ c.long_signed.ensures
    c.in-Some.ensures.exact)

pub returns-in-Some-short_magnitude : goal.returns-in-Some-short_magnitude
returns-in-Some-short_magnitude c =
    let fits : SFits w128 c.from.result = search rules in
    let same : c.from.result ≡ c.short_signed.result = search rules in
    rw (to_z-of_z w128 c.from.result fits) (signed_at c.args.bytes.now _ _ (same ∙ c.short_signed.ensures)
    c.in-Some-short_magnitude.ensures.exact)
