use Rattle.std.proofs.Common.{get_or, take, refl, arith}
use Rattle.packed_dec.proofs.Digits.{prefix_small, not_digits, digits_snoc, pair_snoc}
use Rattle.packed_dec.proofs.reading.digit_pairs.Goals as goal
use Rattle.plain_laws.proofs.Lists.{take_snoc}

pub returns-then-high-gt9-clause-exact : goal.returns-then-high-gt9-clause-exact
returns-then-high-gt9-clause-exact c = rw (not_digits c.args.bytes.now c.loop-byte.byte-index c.loop-byte-test.true
    c.then-high-gt9.either) refl

pub overflow_mul-n : goal.overflow_mul-n
overflow_mul-n c =
    let h = prefix_small c.args.bytes.now c.loop-byte.byte-index c.requires c.loop-byte.invariant.digits in
    omega (arith, h, c.loop-byte.invariant.so_far)

pub overflow_add-n : goal.overflow_add-n
overflow_add-n c =
    let h = prefix_small c.args.bytes.now c.loop-byte.byte-index c.requires c.loop-byte.invariant.digits in
    omega (arith, h, c.loop-byte.invariant.so_far)

pub overflow_add-n-in-loop-byte : goal.overflow_add-n-in-loop-byte
overflow_add-n-in-loop-byte c =
    let h = prefix_small c.args.bytes.now c.loop-byte.byte-index c.requires c.loop-byte.invariant.digits in
    omega (arith, h, c.loop-byte.invariant.so_far)

pub loop-byte-preserved : goal.loop-byte-preserved
loop-byte-preserved c =
    let xs = take c.loop-byte.byte-index c.args.bytes.now in
    let b = get_or c.args.bytes.now c.loop-byte.byte-index 0 in
    rw (take_snoc c.args.bytes.now c.loop-byte.byte-index c.loop-byte-test.true) (record {
      digits = digits_snoc xs b c.loop-byte.invariant.digits (omega arith) (omega arith);
      so_far = rw (pair_snoc xs b, c.loop-byte.invariant.so_far) (grind arith);
    })

pub returns-clause-small : goal.returns-clause-small
returns-clause-small c =
    let h = prefix_small c.args.bytes.now c.loop-byte.byte-index c.requires c.loop-byte.invariant.digits in
    omega (arith, h, c.loop-byte.invariant.so_far)
