use Rattle.std.proofs.Common.{◌≤◌, ◌<◌, ◌^◌, length, refl, subst, arith}
use Rattle.std.proofs.lemmas.Int.{to_z-of_z}
use Rattle.std.proofs.Math.Nat.{pow-le-pow_right}
use Rattle.std.specs.Int.{w64, w128, FitsUnsigned}
use Rattle.std.specs.Prelude.{ℤ}
use Rattle.packed_dec.proofs.Forms.{no_room}
use Rattle.packed_dec.proofs.writing.write_unsigned.Goals as goal

pub returns-in_default : goal.returns-in_default
returns-in_default c =
    let Unfit : ℤ → Type 0 = λ z. FitsUnsigned w64 z → ⊥ in
    rw (no_room (length c.args.into.now) c.args.n c.requires.few
    (subst Unfit (to_z-of_z w128 c.args.n c.ranges.n) c.in_default.ensures)) refl

pub pow-requires : goal.pow-requires
pow-requires c =
    let some : 0 < 256 = omega arith in
    let few : length c.args.into.now ≤ 7 = omega arith in
    let power : 256 ^ length c.args.into.now ≤ 256 ^ 7 = pow-le-pow_right some few in
    omega (arith, power)
