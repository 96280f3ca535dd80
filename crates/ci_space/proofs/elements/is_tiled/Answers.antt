use Rattle.std.proofs.Common.{◌≡◌, length, refl, [], arith}
use Rattle.ci_space.proofs.elements.is_tiled.Goals as goal

pub returns : goal.returns
returns c =
    let e : c.loop-at.at ≡ length c.args.bytes.now = omega arith in
    (λ _. c.loop-at.invariant.1.0 (record { elements = []; chain = e; is_merged = tt; apart = λ _. tt }), λ _. refl)
