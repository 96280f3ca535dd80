use Rattle.std.proofs.Common.{◌≤◌, ◌<◌, ◌^◌, ◌-◌, ◌*◌, length, arith}
use Rattle.std.proofs.Math.Nat.{pow-le-pow_right}
use Rattle.packed_dec.proofs.writing.write_long.Goals as goal

pub pow-requires : goal.pow-requires
pow-requires c =
    let ten : 0 < 10 = omega arith in
    let digits : 2 * length c.args.into.now - 1 ≤ 31 = omega (arith, c.requires.few) in
    let power : 10 ^ (2 * length c.args.into.now - 1) ≤ 10 ^ 31 = pow-le-pow_right ten digits in
    omega (arith, power)

pub put_long-requires-clause-digits : goal.put_long-requires-clause-digits
put_long-requires-clause-digits c =
    let ten : 0 < 10 = omega arith in
    let digits : 2 * length c.args.into.now - 1 ≤ 31 = omega (arith, c.requires.few) in
    let power : 10 ^ (2 * length c.args.into.now - 1) ≤ 10 ^ 31 = pow-le-pow_right ten digits in
    omega (arith, power, c.pow.ensures, c.if-magnitude-pow.false)
