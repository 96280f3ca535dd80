use Rattle.std.proofs.Common.{◌/◌, ◌-◌, ◌*◌, length, arith}
use Rattle.packed_dec.proofs.Forms.{form_apart}
use Rattle.packed_dec.proofs.writing.put_long.Goals as goal

pub returns : goal.returns
returns c =
    let front = c.split_at_mut-front.result.0.now in
    let back = c.split_at_mut-front.result.1.now in
    form_apart (length c.args.into.now) (length front) (length back) c.args.n (c.args.n / 100000000000000000)
    (c.args.n - c.from.result * 100000000000000000) c.args.sign
    c.put_pairs.new.into c.put_short.new.into c.put_pairs.ensures c.put_short.ensures
    (omega (arith, c.split_at_mut-front.ensures.back_len, c.split_at_mut-front.ensures.front_len, c.requires.many))
    (omega (arith, c.split_at_mut-front.ensures.front_len, c.requires.many))
    (omega (arith, c.from.ensures, c.requires.digits))
    (omega (arith, c.from.ensures, c.requires.digits))
