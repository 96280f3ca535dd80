use Rattle.std.proofs.Common.{arith}
use Rattle.packed_dec.proofs.Digits.{no_pairs, bad_end, good_end}
use Rattle.packed_dec.proofs.reading.short_magnitude.Goals as goal

pub returns-in_default-clause-exact : goal.returns-in_default-clause-exact
returns-in_default-clause-exact c = no_pairs c.args.bytes.now c.in_ok-last.front.now c.in_ok-last.last.now
    c.in_ok-last.ensures.cases.0 c.in_default.ensures.exact

pub returns-then-digit-gt9-clause-exact : goal.returns-then-digit-gt9-clause-exact
returns-then-digit-gt9-clause-exact c = bad_end c.args.bytes.now c.in_ok-last.front.now c.in_ok-last.last.now
    c.in_ok-last.ensures.cases.0 c.then-digit-gt9.either

pub returns-clause-exact : goal.returns-clause-exact
returns-clause-exact c = rw c.from.ensures (good_end c.args.bytes.now c.in_ok-last.front.now c.in_ok-last.last.now
    c.in-Some.n c.in_ok-last.ensures.cases.0 c.in-Some.ensures.exact (omega arith) (omega arith))
