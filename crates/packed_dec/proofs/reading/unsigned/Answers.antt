use Rattle.std.proofs.Common.{arith}
use Rattle.packed_dec.proofs.Digits.{prefix_below}
use Rattle.packed_dec.proofs.reading.unsigned.Goals as goal

pub overflow_mul-n : goal.overflow_mul-n
overflow_mul-n c =
    let h = prefix_below c.args.bytes.now c.loop-byte.byte-index c.requires (λ i. omega (arith, c.type_inv.bytes i))
    c.loop-byte-test.true in omega (arith, h, c.loop-byte.invariant)

pub overflow_add-n : goal.overflow_add-n
overflow_add-n c =
    let h = prefix_below c.args.bytes.now c.loop-byte.byte-index c.requires (λ i. omega (arith, c.type_inv.bytes i))
    c.loop-byte-test.true in omega (arith, h, c.loop-byte.invariant)
